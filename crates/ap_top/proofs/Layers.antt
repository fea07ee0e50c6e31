-- From what a layer of the run has put to what the layer above it has put.
use Rattle.std.proofs.Common.{◌≡◌, ◌≢◌, ◌⊎◌, inl, inr, ℕ, ◌+◌, ◌<◌, ◌≤◌, Bool, true, false, List, [], ◌∷◌, ◌++◌, length, length-append, Option, None, Some, Result, Ok, Err, sym, ◌∙◌, ap, subst, refl, arith, codes, append_assoc, append-nil, All, Contains}
use Rattle.std.proofs.lemmas.Grind.{common_steps}
use Rattle.std.proofs.lemmas.List.Elements.{All-filter}
use Rattle.std.specs.Io.KnownBytes.{Consumes, IsAtEnd}
use Rattle.std.specs.List.{filter}
use Rattle.ap_outside.specs.Pieces.{Puts, PrefixOf, FrontOf, CutOf}
use Rattle.ap_outside.specs.Files.{HasContent}
use Rattle.ap_outside.specs.Halting.{AnyOf, Finishes}
use Rattle.ap_outside.specs.declared.halting.Halt.{Halt}
use Rattle.ap_outside.specs.declared.halting.Halt.TheVariants as halt
use Rattle.ap_outside.proofs.Puts.{adds_nothing, puts_then}
use Rattle.ap_outside.proofs.Halts.{halts_after, passes_on}
use Rattle.ap_lexer.specs.Lexeme.{Text}
use Rattle.ap_lexer.specs.Piece.{pieces}
use Rattle.ap_lexer.specs.declared.cut.Piece.{Piece}
use Rattle.ap_term.specs.AtomTable.{fixed_names}
use Rattle.ap_term.specs.Goals.{Program}
use Rattle.ap_clause.specs.Reads.{RefusesProgram}
use Rattle.ap_clause.specs.declared.refusal.Refusal.{Refusal}
use Rattle.ap_words.specs.Reading.{IsRead, Reading, usage}
use Rattle.ap_top.specs.Words.{Asked}
use Rattle.ap_top.specs.Output.{IsOutput, judged}
use Rattle.ap_top.specs.Refusals.{refusal_line}
use Rattle.ap_top.specs.Ends.{SourceEnds, TextEnds, FileEnds, AskedEnds, WordsEnd, Whole, SaysNoMemory, IsTold, IsTaken}
use Rattle.ap_top.specs.Counts.{HasNoProgram}
use Rattle.ap_top.specs.declared.status.Tally.{Tally}
use Rattle.ap_top.specs.declared.status.Status.{Status}
use Rattle.ap_top.specs.declared.status.Status.TheVariants as status
use Rattle.ap_top.proofs.Statuses.{tally_calm, tally_found}
use Rattle.ap_top.proofs.ShowLayers.{show_status}
use Rattle.ap_top.proofs.CodeLayers.{code_status}
use Rattle.ap_top.proofs.LoadLayers.{load_calm}

pub told_whole : (a b : Option (List ℕ)) (bytes : List ℕ) → Consumes a b bytes → IsAtEnd b → IsTold a bytes
told_whole None b bytes f e = tt
told_whole (Some u) None bytes f e = absurd f
told_whole (Some u) (Some v) bytes f e = f ∙ ap (λ w. bytes ++ w) e ∙ append-nil bytes

pub taken_first : (a b : Option (List ℕ)) (bytes : List ℕ) → Consumes a b bytes → IsTaken a bytes
taken_first None b bytes f = tt
taken_first (Some u) None bytes f = absurd f
taken_first (Some u) (Some v) bytes f = (v, f)

module _ (what : Asked) (program : Program) (table : List (List ℕ)) where
  pub source_too_long : (a b : Option (List ℕ)) (bytes : List ℕ) (Rose : List ℕ → Type 0) → Consumes a b bytes → 16777216 < length bytes →
      (s : Status) (ls : List (List ℕ)) → (s ≡ status.QueriesTooLong) × (ls ≡ codes "refused: queries too long\n" ∷ []) → SourceEnds what program table a Rose s ls
  source_too_long None b bytes Rose f long s ls h = subst (λ t. SourceEnds what program table None Rose t ls) (sym h.0) (SourceEnds.too_long bytes ls tt long h.1)
  source_too_long (Some u) None bytes Rose f long s ls h = absurd f
  source_too_long (Some u) (Some v) bytes Rose f long s ls h =
      let size : length u ≡ length bytes + length v = ap length f ∙ length-append bytes v in
      subst (λ t. SourceEnds what program table (Some u) Rose t ls) (sym h.0) (SourceEnds.too_long u ls refl (omega (arith, size, long)) h.1)

-- what is judged of a text are pieces of it
all_own : (xs : List Piece) → All (Contains xs) xs
all_own xs = λ k d lt. (k, lt, grind (arith, common_steps))

pub judged_own : (whole : Bool) (text : Text) → All (Contains (pieces text)) (judged whole text)
judged_own true text = all_own (pieces text)
judged_own false text = All-filter (λ p. p.ended) (Contains (pieces text)) (pieces text) (all_own (pieces text))

-- a call that goes on behind lines that have P
pub finishes_after : {T : Type 0} (P : List (List ℕ) → Type 0) (E F : T → List (List ℕ) → Type 0) → ((t : T) (ps qs : List (List ℕ)) → P ps → E t qs → F t (ps ++ qs)) →
    ((ps : List (List ℕ)) → P ps → FrontOf (AnyOf F) ps) → (a b c : Option (List (List ℕ))) (r : Result T Halt) → Puts a b P → Finishes b c E r → Finishes a c F r
finishes_after P E F goes stops a b c (Ok t) puts more = puts_then a b c P (E t) (F t) (goes t) puts more
finishes_after P E F goes stops a b c (Err e) puts more =
    halts_after P E F (λ ps qs p any. ([], (any.0, subst (F any.0) (sym (append-nil (ps ++ qs))) (goes any.0 ps qs p any.1)))) stops a b c e puts more

module _ (what : Asked) (program : Program) (table : List (List ℕ)) (source : Option (List ℕ)) (Rose : List ℕ → Type 0) (taken : List ℕ) (rose : Rose taken) (short : length taken ≤ 16777216) where
  fault_behind : (t : Tally) (s : Status) (ps qs : List (List ℕ)) → IsOutput what.budget what.answers program table taken (judged false taken) t ps → (s ≡ status.SourceFault) × (qs ≡ codes "fault: source\n" ∷ [])
      → SourceEnds what program table source Rose s (ps ++ qs)
  fault_behind t s ps qs out h = subst (λ u. SourceEnds what program table source Rose u (ps ++ qs)) (sym h.0) (SourceEnds.fault taken t ps (ps ++ qs) rose short out (ap (λ ls. ps ++ ls) h.1))

  fault_front : (t : Tally) (ps : List (List ℕ)) → IsOutput what.budget what.answers program table taken (judged false taken) t ps → PrefixOf (AnyOf (SourceEnds what program table source Rose)) ps
  fault_front t ps out = (codes "fault: source\n" ∷ [], (status.SourceFault, fault_behind t status.SourceFault ps (codes "fault: source\n" ∷ []) out (refl, refl)))

  -- what was taken before a fault broke off
  pub taken_halts : (a b : Option (List (List ℕ))) (r : Result Tally Halt) (q : Result Status Halt) (e : Halt) → r ≡ Err e → q ≡ Err e →
      Finishes a b (IsOutput what.budget what.answers program table taken (judged false taken)) r → Finishes a b (SourceEnds what program table source Rose) q
  taken_halts a b r q e was same put =
      passes_on {T = Tally} {U = Status} (λ ps. ps ≡ []) (IsOutput what.budget what.answers program table taken (judged false taken)) (SourceEnds what program table source Rose)
      (λ ps qs none any. let on = fault_front any.0 qs any.1 in (on.0, subst (λ ls. AnyOf (SourceEnds what program table source Rose) ((ls ++ qs) ++ on.0)) (sym none) on.1))
      (λ ps none. inl none) a a b r q e was same ([], adds_nothing a, refl) put

  pub source_fault : (a b c : Option (List (List ℕ))) (t : Tally) (r : Result Status Halt) → Puts a b (IsOutput what.budget what.answers program table taken (judged false taken) t) →
      Finishes b c (λ s put. (s ≡ status.SourceFault) × (put ≡ codes "fault: source\n" ∷ [])) r → Finishes a c (SourceEnds what program table source Rose) r
  source_fault a b c t r puts more =
      finishes_after (IsOutput what.budget what.answers program table taken (judged false taken) t) (λ s put. (s ≡ status.SourceFault) × (put ≡ codes "fault: source\n" ∷ [])) (SourceEnds what program table source Rose)
      (λ s ps qs out h. fault_behind t s ps qs out h) (λ ps out. inr (fault_front t ps out)) a b c r puts more

module _ (what : Asked) (bytes : List ℕ) (source : Option (List ℕ)) (Rose : List ℕ → Type 0) (names : List (List ℕ)) (r : Refusal) (same : names ≡ fixed_names) (h : RefusesProgram bytes fixed_names r) where
  pub text_refused : (ls : List (List ℕ)) → ls ≡ refusal_line names r ∷ [] → TextEnds what bytes source Rose status.ProgramRefused ls
  text_refused ls is = TextEnds.refused r ls h (is ∙ ap (λ t. refusal_line t r ∷ []) same)

module _ (what : Asked) (entries : Option (List (List ℕ × List ℕ))) (source : Option (List ℕ)) (FilesRose : Type 0) (SourceRose : List ℕ → Type 0) where
  pub file_fault : FilesRose → (s : Status) (ls : List (List ℕ)) → (s ≡ status.FileFault) × (ls ≡ codes "fault: file\n" ∷ []) → FileEnds what entries source FilesRose SourceRose s ls
  file_fault rose s ls h = subst (λ t. FileEnds what entries source FilesRose SourceRose t ls) (sym h.0) (FileEnds.fault ls rose h.1)

  pub file_too_long : HasContent entries what.file (λ bytes. 16777216 < length bytes) → (s : Status) (ls : List (List ℕ)) → (s ≡ status.ProgramRefused) × (ls ≡ codes "refused: too long\n" ∷ [])
      → FileEnds what entries source FilesRose SourceRose s ls
  file_too_long has s ls h = subst (λ t. FileEnds what entries source FilesRose SourceRose t ls) (sym h.0) (FileEnds.too_long ls has h.1)

pub file_read : (what : Asked) (entries : Option (List (List ℕ × List ℕ))) (source : Option (List ℕ)) (FilesRose : Type 0) (SourceRose : List ℕ → Type 0) (bytes : List ℕ) → HasContent entries what.file (λ content. bytes ≡ content) →
    length bytes ≤ 16777216 → (s : Status) (ls : List (List ℕ)) → TextEnds what bytes source SourceRose s ls → FileEnds what entries source FilesRose SourceRose s ls
file_read what None source FilesRose SourceRose bytes has short s ls h = FileEnds.read bytes s ls tt short h
file_read what (Some entries) source FilesRose SourceRose bytes has short s ls h = FileEnds.read bytes s ls (has.0, has.1, sym has.2) short h

-- ---- statuses that a layer doesn't end with

abbrev IsOther : Status → Type 0
IsOther s = (s ≢ status.FileFault) × (s ≢ status.SinkFault) × (s ≢ status.Usage)

source_status : (what : Asked) (program : Program) (table : List (List ℕ)) (source : Option (List ℕ)) (Rose : List ℕ → Type 0) (s : Status) (ls : List (List ℕ)) → SourceEnds what program table source Rose s ls → IsOther s
source_status what program table source Rose _ ls (SourceEnds.fault i t b _ r l o e) = (λ f. cc, λ f. cc, λ f. cc)
source_status what program table source Rose _ ls (SourceEnds.too_long i _ t l e) = (λ f. cc, λ f. cc, λ f. cc)
source_status what program table source Rose _ ls (SourceEnds.read i t s _ told l o e) = let calm = tally_calm t.spent t.refused s e in (calm.0, calm.1, calm.3)

-- over an accepted program
pub source_found : (what : Asked) (program : Program) (table : List (List ℕ)) (source : Option (List ℕ)) (Rose : List ℕ → Type 0) (s : Status) (ls : List (List ℕ)) → SourceEnds what program table source Rose s ls → HasNoProgram s → ⊥
source_found what program table source Rose _ ls (SourceEnds.fault i t b _ r l o e) h = h
source_found what program table source Rose _ ls (SourceEnds.too_long i _ t l e) h = h
source_found what program table source Rose _ ls (SourceEnds.read i t s _ told l o e) h = tally_found t.spent t.refused s e h

pub text_status : (what : Asked) (bytes : List ℕ) (source : Option (List ℕ)) (Rose : List ℕ → Type 0) (s : Status) (ls : List (List ℕ)) → TextEnds what bytes source Rose s ls → IsOther s
text_status what bytes source Rose _ ls (TextEnds.refused r _ n e) = (λ f. cc, λ f. cc, λ f. cc)
text_status what bytes source Rose _ ls (TextEnds.accepted program table s _ r p) = source_status what program table source Rose s ls p

file_status : (what : Asked) (entries : Option (List (List ℕ × List ℕ))) (source : Option (List ℕ)) (FilesRose : Type 0) (SourceRose : List ℕ → Type 0) (s : Status) (ls : List (List ℕ)) → FileEnds what entries source FilesRose SourceRose s ls
    → (s ≢ status.SinkFault) × (s ≢ status.Usage)
file_status what entries source FilesRose SourceRose _ ls (FileEnds.fault _ r e) = (λ f. cc, λ f. cc)
file_status what entries source FilesRose SourceRose _ ls (FileEnds.too_long _ r e) = (λ f. cc, λ f. cc)
file_status what entries source FilesRose SourceRose _ ls (FileEnds.read bytes s _ c l t) = let other = text_status what bytes source SourceRose s ls t in (other.1, other.2)

module _ (r : Reading) (entries : Option (List (List ℕ × List ℕ))) (source : Option (List ℕ)) (FilesRose : Type 0) (SourceRose : List ℕ → Type 0) where
  asked_status : (s : Status) (ls : List (List ℕ)) → AskedEnds r entries source FilesRose SourceRose s ls → s ≢ status.SinkFault
  asked_status _ ls (AskedEnds.unasked _ e l) = λ f. cc
  asked_status _ ls (AskedEnds.helped _ e l) = λ f. cc
  asked_status _ ls (AskedEnds.versioned _ e l) = λ f. cc
  asked_status _ ls (AskedEnds.ran what s _ e ends) = (file_status what entries source FilesRose SourceRose s ls ends).0
  asked_status _ ls (AskedEnds.shown what s _ e ends) = (show_status what entries FilesRose s ls ends).0
  asked_status _ ls (AskedEnds.coded file s _ e ends) = (code_status file entries FilesRose s ls ends).0
  asked_status _ ls (AskedEnds.loaded seed size workers s _ e ends) = (load_calm seed size s ls ends).1

  -- the usage goes with a reading of no command line only
  asked_usage : (s : Status) (ls : List (List ℕ)) → AskedEnds r entries source FilesRose SourceRose s ls → s ≡ status.Usage → r ≡ usage
  asked_usage _ ls (AskedEnds.unasked _ e l) is = e
  asked_usage _ ls (AskedEnds.helped _ e l) is = cc
  asked_usage _ ls (AskedEnds.versioned _ e l) is = cc
  asked_usage _ ls (AskedEnds.ran what s _ e ends) is = absurd ((file_status what entries source FilesRose SourceRose s ls ends).1 is)
  asked_usage _ ls (AskedEnds.shown what s _ e ends) is = absurd ((show_status what entries FilesRose s ls ends).2 is)
  asked_usage _ ls (AskedEnds.coded file s _ e ends) is = absurd ((code_status file entries FilesRose s ls ends).2 is)
  asked_usage _ ls (AskedEnds.loaded seed size workers s _ e ends) is = absurd ((load_calm seed size s ls ends).3 is)

-- no run that ends by itself has the status of a sink's fault
pub run_status : (words : List (List ℕ)) (entries : Option (List (List ℕ × List ℕ))) (source : Option (List ℕ)) (FilesRose : Type 0) (SourceRose : List ℕ → Type 0) (s : Status) (ls : List (List ℕ)) → WordsEnd words entries source FilesRose SourceRose s ls → s ≢ status.SinkFault
run_status words entries source FilesRose SourceRose _ ls (WordsEnd.read r s _ is ends) = asked_status r entries source FilesRose SourceRose s ls ends

pub run_usage : (words : List (List ℕ)) (entries : Option (List (List ℕ × List ℕ))) (source : Option (List ℕ)) (FilesRose : Type 0) (SourceRose : List ℕ → Type 0) (s : Status) (ls : List (List ℕ)) → WordsEnd words entries source FilesRose SourceRose s ls
    → s ≡ status.Usage → IsRead words usage
run_usage words entries source FilesRose SourceRose _ ls (WordsEnd.read r s _ read ends) is = subst (IsRead words) (asked_usage r entries source FilesRose SourceRose s ls ends is) read

pub given_up_found : (s : Status) → (s ≡ status.NoMemory) ⊎ (s ≡ status.SinkFault) → HasNoProgram s → ⊥
given_up_found s (inl memory) h = subst HasNoProgram memory h
given_up_found s (inr sink) h = subst HasNoProgram sink h

pub given_up_usage : {A : Type 0} (s : Status) → (s ≡ status.NoMemory) ⊎ (s ≡ status.SinkFault) → s ≡ status.Usage → A
given_up_usage s (inl memory) is = let clash : status.NoMemory ≡ status.Usage = sym memory ∙ is in cc
given_up_usage s (inr sink) is = let clash : status.SinkFault ≡ status.Usage = sym sink ∙ is in cc

-- what is said behind a front, at an end or cut
pub gave_up : (E : Status → List (List ℕ) → Type 0) (front said : List (List ℕ)) → FrontOf (AnyOf E) front → SaysNoMemory said → Whole E status.NoMemory (front ++ said)
gave_up E front said f s = Whole.no_memory (front ++ said) (front, said, refl, f, s)

pub gave_up_cut : (E : Status → List (List ℕ) → Type 0) (front said : List (List ℕ)) → FrontOf (AnyOf E) front → CutOf SaysNoMemory said → Whole E status.SinkFault (front ++ said)
gave_up_cut E front said f cut =
    Whole.sink_at_no_memory (front ++ said) (
      front ++ cut.0,
      cut.1,
      cut.2,
      cut.3,
      ap (λ ls. front ++ ls) cut.4 ∙ sym (append_assoc front cut.0 (cut.3 ∷ [])),
      cut.5,
      (front, cut.0 ++ cut.1 ∷ cut.2, append_assoc front cut.0 (cut.1 ∷ cut.2), f, cut.6),
    )

pub sink_lines : (a b : Option (List (List ℕ))) (E : Status → List (List ℕ) → Type 0) (e : Halt) → e ≡ halt.Sink → Finishes a b E (Err e) → Puts a b (CutOf (AnyOf E))
sink_lines a b E halt.Sink is puts = puts
sink_lines a b E halt.NoMemory is puts = cc

pub memory_lines : (a b : Option (List (List ℕ))) (E : Status → List (List ℕ) → Type 0) (e : Halt) → e ≡ halt.NoMemory → Finishes a b E (Err e) → Puts a b (FrontOf (AnyOf E))
memory_lines a b E halt.NoMemory is puts = puts
memory_lines a b E halt.Sink is puts = cc

pub end_given_up : (a b c : Option (List (List ℕ))) (E : Status → List (List ℕ) → Type 0) (s : Status) → Puts a b (FrontOf (AnyOf E)) →
    (s ≡ status.NoMemory → Puts b c SaysNoMemory) → (s ≡ status.SinkFault → Puts b c (CutOf SaysNoMemory)) → (s ≡ status.NoMemory) ⊎ (s ≡ status.SinkFault) → Puts a c (Whole E s)
end_given_up a b c E s front memory sink (inl is) =
    subst (λ t. Puts a c (Whole E t)) (sym is) (puts_then a b c (FrontOf (AnyOf E)) SaysNoMemory (Whole E status.NoMemory) (gave_up E) front (memory is))
end_given_up a b c E s front memory sink (inr is) =
    subst (λ t. Puts a c (Whole E t)) (sym is) (puts_then a b c (FrontOf (AnyOf E)) (CutOf SaysNoMemory) (Whole E status.SinkFault) (gave_up_cut E) front (sink is))

pub judged_ended : (whole : Bool) (text : Text) (ps : List Piece) → whole ≡ false → ps ≡ filter (λ p. p.ended) (pieces text) → ps ≡ judged whole text
judged_ended whole text ps e h = h ∙ ap (λ b. judged b text) (sym e)
