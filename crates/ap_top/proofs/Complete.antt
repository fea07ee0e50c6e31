-- A run over an accepted program that nothing outside disturbed answers its queries.
use Rattle.std.proofs.Common.{◌≡◌, ◌⊎◌, inl, inr, ℕ, ◌≤◌, Bool, true, false, List, length, Option, None, Some, sym, ◌∙◌, ap, subst, arith}
use Rattle.ap_outside.specs.Faults.{Rises}
use Rattle.ap_term.specs.AtomTable.{fixed_names}
use Rattle.ap_term.specs.Goals.{Program}
use Rattle.ap_clause.specs.Reads.{AcceptsProgram}
use Rattle.ap_clause.proofs.OneResult.{not_both, one_program}
use Rattle.ap_patterns.specs.declared.entries.Entries.{Entries}
use Rattle.ap_top.specs.Words.{Asked, Shown}
use Rattle.ap_top.specs.Status.{status_of, tally}
use Rattle.ap_top.specs.Counts.{RunSinkCount}
use Rattle.ap_top.specs.Ends.{SourceEnds, TextEnds, FileEnds, WordsEnd, IsFile, IsAnswering, NamesProgram, IsShowing, ShowsProgram, CodesProgram}
use Rattle.ap_top.specs.Patterns.{AreEntries}
use Rattle.ap_top.specs.Shows.{ProgramShows, TextShows, FileShows}
use Rattle.ap_top.specs.Codes.{TextCodes, FileCodes}
use Rattle.ap_top.specs.declared.status.Status.{Status}
use Rattle.ap_top.specs.declared.status.Status.TheVariants as status
use Rattle.ap_top.proofs.Readings.{code_ends, run_ends, show_ends}

one_content : (bytes other : List ℕ) → Some bytes ≡ Some other → bytes ≡ other
one_content bytes other e = cc

answers_tally : (spent refused : Bool) (s : Status) → s ≡ status_of (tally spent refused) → IsAnswering s
answers_tally spent true s e = subst IsAnswering (sym e) tt
answers_tally true false s e = subst IsAnswering (sym e) tt
answers_tally false false s e = subst IsAnswering (sym e) tt

module _ (source : Option (List ℕ)) (SourceRose : List ℕ → Type 0) (calm : (taken : List ℕ) → SourceRose taken → ⊥) where
  source_answers : (what : Asked) (program : Program) (table : List (List ℕ)) (s : Status) (ls : List (List ℕ)) → SourceEnds what program table source SourceRose s ls → IsAnswering s
  source_answers what program table _ ls (SourceEnds.fault i t b _ r l o e) = absurd (calm i r)
  source_answers what program table _ ls (SourceEnds.too_long i _ t l e) = tt
  source_answers what program table _ ls (SourceEnds.read i t s _ told l o e) = answers_tally t.spent t.refused s e

  text_answers : (what : Asked) (bytes : List ℕ) (program : Program) (table : List (List ℕ)) → AcceptsProgram bytes fixed_names program table → (s : Status) (ls : List (List ℕ)) → TextEnds what bytes source SourceRose s ls
      → IsAnswering s
  text_answers what bytes program table h _ ls (TextEnds.refused r _ n e) = absurd (not_both bytes fixed_names table program r h n)
  text_answers what bytes program table h _ ls (TextEnds.accepted p t s _ r ends) = source_answers what p t s ls ends

  module _ (FilesRose : Type 0) (quiet : FilesRose → ⊥) where
    file_answers : (what : Asked) (entries : Option (List (List ℕ × List ℕ))) (bytes : List ℕ) (program : Program) (table : List (List ℕ)) → IsFile entries what.file bytes → length bytes ≤ 16777216
        → AcceptsProgram bytes fixed_names program table → (s : Status) (ls : List (List ℕ)) → FileEnds what entries source FilesRose SourceRose s ls → IsAnswering s
    file_answers what None bytes program table is short h s ls ends = absurd is
    file_answers what (Some entries) bytes program table is short h _ ls (FileEnds.fault _ r e) = absurd (quiet r)
    file_answers what (Some entries) bytes program table is short h _ ls (FileEnds.too_long _ has e) =
        let same : bytes ≡ has.0 = one_content bytes has.0 (sym is ∙ has.1) in
        let size : length bytes ≡ length has.0 = ap length same in
        let long = has.2 in
        absurd (omega (arith, size, long, short))
    file_answers what (Some entries) bytes program table is short h _ ls (FileEnds.read other s _ has k ends) =
        let same : bytes ≡ other = one_content bytes other (sym is ∙ has.1 ∙ ap Some has.2) in
        text_answers what other program table (subst (λ b. AcceptsProgram b fixed_names program table) same h) s ls ends

    pub run_answers : (words : List (List ℕ)) (entries : Option (List (List ℕ × List ℕ))) → NamesProgram words entries → (s : Status) (ls : List (List ℕ)) → WordsEnd words entries source FilesRose SourceRose s ls
        → IsAnswering s
    run_answers words entries names s ls ends =
        file_answers names.what entries names.bytes names.program names.table names.file names.short names.accepted s ls (run_ends entries source FilesRose SourceRose words names.what names.command s ls ends)

-- ---- `show`

module _ (FilesRose : Type 0) (quiet : FilesRose → ⊥) where
  program_shows : (what : Shown) (program : Program) (table : List (List ℕ)) (E : Entries) → AreEntries what.entry program table E → (s : Status) (ls : List (List ℕ)) → ProgramShows what program table s ls → IsShowing s
  program_shows what program table E is _ ls (ProgramShows.entry _ none e) = absurd (none E is)
  program_shows what program table E is _ ls (ProgramShows.shown _ i) = tt

  text_shows : (what : Shown) (bytes : List ℕ) (program : Program) (table : List (List ℕ)) (E : Entries) → AcceptsProgram bytes fixed_names program table → AreEntries what.entry program table E
      → (s : Status) (ls : List (List ℕ)) → TextShows what bytes s ls → IsShowing s
  text_shows what bytes program table E h is _ ls (TextShows.refused r _ n e) = absurd (not_both bytes fixed_names table program r h n)
  text_shows what bytes program table E h is _ ls (TextShows.accepted p t s _ r ends) =
      let one = one_program bytes fixed_names table t program p h r in
      program_shows what p t E (subst (λ n. AreEntries what.entry p n E) one.1 (subst (λ q. AreEntries what.entry q table E) one.0 is)) s ls ends

  file_shows : (what : Shown) (entries : Option (List (List ℕ × List ℕ))) (bytes : List ℕ) (program : Program) (table : List (List ℕ)) (E : Entries) → IsFile entries what.file bytes → length bytes ≤ 16777216
      → AcceptsProgram bytes fixed_names program table → AreEntries what.entry program table E → (s : Status) (ls : List (List ℕ)) → FileShows what entries FilesRose s ls → IsShowing s
  file_shows what None bytes program table E f short h is s ls ends = absurd f
  file_shows what (Some entries) bytes program table E f short h is _ ls (FileShows.fault _ r e) = absurd (quiet r)
  file_shows what (Some entries) bytes program table E f short h is _ ls (FileShows.too_long _ has e) =
      let same : bytes ≡ has.0 = one_content bytes has.0 (sym f ∙ has.1) in
      let size : length bytes ≡ length has.0 = ap length same in
      let long = has.2 in
      absurd (omega (arith, size, long, short))
  file_shows what (Some entries) bytes program table E f short h is _ ls (FileShows.read other s _ has k ends) =
      let same : bytes ≡ other = one_content bytes other (sym f ∙ has.1 ∙ ap Some has.2) in
      text_shows what other program table E (subst (λ b. AcceptsProgram b fixed_names program table) same h) is s ls ends

  pub run_shows : (source : Option (List ℕ)) (SourceRose : List ℕ → Type 0) (words : List (List ℕ)) (entries : Option (List (List ℕ × List ℕ))) → ShowsProgram words entries → (s : Status) (ls : List (List ℕ))
      → WordsEnd words entries source FilesRose SourceRose s ls → IsShowing s
  run_shows source SourceRose words entries names s ls ends =
      file_shows names.what entries names.bytes names.program names.table names.calls names.file names.short names.accepted names.entry s ls (show_ends entries source FilesRose SourceRose words names.what names.command s ls ends)

-- ---- `code`

module _ (FilesRose : Type 0) (quiet : FilesRose → ⊥) where
  text_codes : (bytes : List ℕ) (program : Program) (table : List (List ℕ)) → AcceptsProgram bytes fixed_names program table → (s : Status) (ls : List (List ℕ)) → TextCodes bytes s ls → IsShowing s
  text_codes bytes program table h _ ls (TextCodes.refused r _ n e) = absurd (not_both bytes fixed_names table program r h n)
  text_codes bytes program table h _ ls (TextCodes.accepted p t _ r l) = tt

  file_codes : (file : List ℕ) (entries : Option (List (List ℕ × List ℕ))) (bytes : List ℕ) (program : Program) (table : List (List ℕ)) → IsFile entries file bytes → length bytes ≤ 16777216
      → AcceptsProgram bytes fixed_names program table → (s : Status) (ls : List (List ℕ)) → FileCodes file entries FilesRose s ls → IsShowing s
  file_codes file None bytes program table f short h s ls ends = absurd f
  file_codes file (Some entries) bytes program table f short h _ ls (FileCodes.fault _ r e) = absurd (quiet r)
  file_codes file (Some entries) bytes program table f short h _ ls (FileCodes.too_long _ has e) =
      let same : bytes ≡ has.0 = one_content bytes has.0 (sym f ∙ has.1) in
      let size : length bytes ≡ length has.0 = ap length same in
      let long = has.2 in
      absurd (omega (arith, size, long, short))
  file_codes file (Some entries) bytes program table f short h _ ls (FileCodes.read other s _ has k ends) =
      let same : bytes ≡ other = one_content bytes other (sym f ∙ has.1 ∙ ap Some has.2) in
      text_codes other program table (subst (λ b. AcceptsProgram b fixed_names program table) same h) s ls ends

  pub run_codes : (source : Option (List ℕ)) (SourceRose : List ℕ → Type 0) (words : List (List ℕ)) (entries : Option (List (List ℕ × List ℕ))) → CodesProgram words entries → (s : Status) (ls : List (List ℕ))
      → WordsEnd words entries source FilesRose SourceRose s ls → IsShowing s
  run_codes source SourceRose words entries names s ls ends =
      file_codes names.wanted entries names.bytes names.program names.table names.file names.short names.accepted s ls (code_ends entries source FilesRose SourceRose words names.wanted names.command s ls ends)

pub shown_given_up : (before now : ℕ) (s : Status) → (Rises before now → ⊥) → (s ≡ status.NoMemory) ⊎ (s ≡ status.SinkFault) → RunSinkCount before now s → IsShowing s
shown_given_up before now s calm (inl is) count = subst IsShowing (sym is) tt
shown_given_up before now s calm (inr is) count = absurd (calm (subst (RunSinkCount before now) is count))

pub given_up : (before now : ℕ) (s : Status) → (Rises before now → ⊥) → (s ≡ status.NoMemory) ⊎ (s ≡ status.SinkFault) → RunSinkCount before now s → IsAnswering s
given_up before now s calm (inl is) count = subst IsAnswering (sym is) tt
given_up before now s calm (inr is) count = absurd (calm (subst (RunSinkCount before now) is count))
