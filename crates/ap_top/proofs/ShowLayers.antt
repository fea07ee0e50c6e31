-- From what a layer of `show` has put to what the layer above it has put.
use Rattle.std.proofs.Common.{◌≡◌, ◌≢◌, ℕ, ◌<◌, ◌≤◌, List, [], ◌∷◌, length, Option, None, Some, sym, ◌∙◌, ap, subst, codes}
use Rattle.ap_outside.specs.Files.{HasContent}
use Rattle.ap_term.specs.AtomTable.{fixed_names}
use Rattle.ap_term.specs.Goals.{Program}
use Rattle.ap_clause.specs.Reads.{RefusesProgram}
use Rattle.ap_clause.specs.declared.refusal.Refusal.{Refusal}
use Rattle.ap_patterns.specs.declared.entries.Entries.{Entries}
use Rattle.ap_cge.specs.Printed.{lines_of}
use Rattle.ap_certify.specs.declared.certified.Scope.TheVariants.{Of}
use Rattle.ap_certify.specs.Certificate.{IsSoundAnnotation}
use Rattle.ap_mel.specs.declared.annotations.Kind.{Kind}
use Rattle.ap_mel.specs.Made.{IsMade}
use Rattle.ap_top.specs.Refusals.{refusal_line}
use Rattle.ap_top.specs.Words.{Shown}
use Rattle.ap_top.specs.Patterns.{AreEntries}
use Rattle.ap_top.specs.Shows.{kind_of, IsPrinted, ProgramShows, TextShows, FileShows}
use Rattle.ap_top.specs.declared.status.Status.{Status}
use Rattle.ap_top.specs.declared.status.Status.TheVariants as status
use Rattle.ap_top.proofs.Statuses.{IsCalm}

module _ (what : Shown) (program : Program) (table : List (List ℕ)) where
  pub entry_refused : ((E : Entries) → AreEntries what.entry program table E → ⊥) → (s : Status) (ls : List (List ℕ)) → (s ≡ status.EntryRefused) × (ls ≡ codes "refused: entry\n" ∷ []) → ProgramShows what program table s ls
  entry_refused none s ls h = subst (λ t. ProgramShows what program table t ls) (sym h.0) (ProgramShows.entry ls none h.1)

  pub shown_lines : (names : List (List ℕ)) → names ≡ table → (E : Entries) → AreEntries what.entry program table E → (ls : List (List ℕ)) → IsPrinted (kind_of what.groups) E program names ls → ProgramShows what program table status.Done ls
  shown_lines names same E is ls h = ProgramShows.shown ls (E, is, subst (λ n. IsPrinted (kind_of what.groups) E program n ls) same h)

pub printed_lines : (k : Kind) (E : Entries) (program annotated certified : Program) (table : List (List ℕ)) → annotated ≡ certified → IsMade k E program certified → IsSoundAnnotation program certified (Of E)
    → (ls : List (List ℕ)) → ls ≡ lines_of table annotated → IsPrinted k E program table ls
printed_lines k E program annotated certified table same made sound ls e = (certified, (made, sound), e ∙ ap (lines_of table) same)

module _ (what : Shown) (bytes : List ℕ) (names : List (List ℕ)) (r : Refusal) (same : names ≡ fixed_names) (h : RefusesProgram bytes fixed_names r) where
  pub show_refused : (ls : List (List ℕ)) → ls ≡ refusal_line names r ∷ [] → TextShows what bytes status.ProgramRefused ls
  show_refused ls is = TextShows.refused r ls h (is ∙ ap (λ t. refusal_line t r ∷ []) same)

module _ (what : Shown) (entries : Option (List (List ℕ × List ℕ))) (FilesRose : Type 0) where
  pub show_fault : FilesRose → (s : Status) (ls : List (List ℕ)) → (s ≡ status.FileFault) × (ls ≡ codes "fault: file\n" ∷ []) → FileShows what entries FilesRose s ls
  show_fault rose s ls h = subst (λ t. FileShows what entries FilesRose t ls) (sym h.0) (FileShows.fault ls rose h.1)

  pub show_too_long : HasContent entries what.file (λ bytes. 16777216 < length bytes) → (s : Status) (ls : List (List ℕ)) → (s ≡ status.ProgramRefused) × (ls ≡ codes "refused: too long\n" ∷ [])
      → FileShows what entries FilesRose s ls
  show_too_long has s ls h = subst (λ t. FileShows what entries FilesRose t ls) (sym h.0) (FileShows.too_long ls has h.1)

pub show_read : (what : Shown) (entries : Option (List (List ℕ × List ℕ))) (FilesRose : Type 0) (bytes : List ℕ) → HasContent entries what.file (λ content. bytes ≡ content) →
    length bytes ≤ 16777216 → (s : Status) (ls : List (List ℕ)) → TextShows what bytes s ls → FileShows what entries FilesRose s ls
show_read what None FilesRose bytes has short s ls h = FileShows.read bytes s ls tt short h
show_read what (Some entries) FilesRose bytes has short s ls h = FileShows.read bytes s ls (has.0, has.1, sym has.2) short h

-- ---- statuses that a layer doesn't end with

program_calm : (what : Shown) (program : Program) (table : List (List ℕ)) (s : Status) (ls : List (List ℕ)) → ProgramShows what program table s ls → IsCalm s
program_calm what program table _ ls (ProgramShows.entry _ n e) = (λ f. cc, λ f. cc, λ f. cc, λ f. cc)
program_calm what program table _ ls (ProgramShows.shown _ i) = (λ f. cc, λ f. cc, λ f. cc, λ f. cc)

pub show_text_calm : (what : Shown) (bytes : List ℕ) (s : Status) (ls : List (List ℕ)) → TextShows what bytes s ls → IsCalm s
show_text_calm what bytes _ ls (TextShows.refused r _ n e) = (λ f. cc, λ f. cc, λ f. cc, λ f. cc)
show_text_calm what bytes _ ls (TextShows.accepted program table s _ r p) = program_calm what program table s ls p

pub show_status : (what : Shown) (entries : Option (List (List ℕ × List ℕ))) (FilesRose : Type 0) (s : Status) (ls : List (List ℕ)) → FileShows what entries FilesRose s ls
    → (s ≢ status.SinkFault) × (s ≢ status.SourceFault) × (s ≢ status.Usage)
show_status what entries FilesRose _ ls (FileShows.fault _ r e) = (λ f. cc, λ f. cc, λ f. cc)
show_status what entries FilesRose _ ls (FileShows.too_long _ r e) = (λ f. cc, λ f. cc, λ f. cc)
show_status what entries FilesRose _ ls (FileShows.read bytes s _ c l t) = let calm = show_text_calm what bytes s ls t in (calm.1, calm.2, calm.3)
