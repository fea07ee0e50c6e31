-- What is told of each query, from a query's block up to a run.
use Rattle.std.proofs.Common.{◌≡◌, ◌⊎◌, inl, inr, ℕ, ◌+◌, ◌<◌, ◌≤◌, Bool, true, false, List, [], ◌∷◌, ◌++◌, take, get_or, length, append_assoc, Option, None, Some, Result, Ok, Err, IfOk, sym, ◌∙◌, ap, subst, refl, arith, codes}
use Rattle.std.proofs.lemmas.Grind.{common_steps}
use Rattle.std.specs.Prelude.{⊤}
use Rattle.ap_outside.specs.Files.{HasContent}
use Rattle.ap_outside.specs.Halting.{Finishes}
use Rattle.ap_outside.specs.Pieces.{Puts}
use Rattle.ap_outside.specs.declared.halting.Halt.{Halt}
use Rattle.ap_outside.proofs.Puts.{puts_map, puts_then}
use Rattle.ap_lexer.specs.Lexeme.{Text}
use Rattle.ap_lexer.specs.declared.cut.Piece.{Piece}
use Rattle.ap_term.specs.Goals.{Program, Query}
use Rattle.ap_worker.specs.declared.emission.Ended.{Ended}
use Rattle.ap_worker.specs.Ends.{end_of}
use Rattle.ap_worker.specs.Totals.{NoneTaken}
use Rattle.ap_top.specs.Counted.{HasAnswered, FileCounted, IsCountedBlock, IsCountedOutput, IsCountedPiece, SourceCounted, TextCounted, bounds_of}
use Rattle.ap_top.specs.Ends.{IsTaken, IsTold}
use Rattle.ap_top.specs.Output.{IsCounted, end_line, judged}
use Rattle.ap_top.specs.Status.{status_of, tally}
use Rattle.ap_top.specs.Words.{Asked}
use Rattle.ap_top.specs.declared.answers.Bounds.{Bounds}
use Rattle.ap_top.specs.declared.status.Status.{Status}
use Rattle.ap_top.specs.declared.status.Status.TheVariants as status

module _ (bounds : Bounds) (workers : ℕ) (program : Program) (table : List (List ℕ)) where
  -- a query's answers as they are printed, and then its end line
  pub block_counts : (query : Query) (e : Ended) (a b c : Option (List (List ℕ))) (line : List ℕ) → line ≡ end_line (end_of e.end) → e.charged ≤ e.total.sum → (workers ≡ 1 → NoneTaken e)
      → Puts a b (IsCounted bounds.kind bounds.budget bounds.answers program table query e) → Puts b c (λ ps. ps ≡ line ∷ []) → Puts a c (IsCountedBlock bounds workers program table query)
  block_counts query e a b c line is total one f g =
      puts_then a b c (IsCounted bounds.kind bounds.budget bounds.answers program table query e) (λ ps. ps ≡ line ∷ []) (IsCountedBlock bounds workers program table query)
      (λ ps qs p q. (ps, e, ap (λ xs. ps ++ xs) (q ∙ ap (λ x. x ∷ []) is), p, total, one)) f g

  module _ (text : Text) where
    counted_append : (xs ys : List Piece) (ps qs : List (List ℕ)) → IsCountedOutput bounds workers program table text xs ps → IsCountedOutput bounds workers program table text ys qs
        → IsCountedOutput bounds workers program table text (xs ++ ys) (ps ++ qs)
    counted_append [] ys ps qs f g = subst (λ ls. IsCountedOutput bounds workers program table text ys (ls ++ qs)) (sym f) g
    counted_append (x ∷ xs) ys ps qs f g = (f.0, f.1 ++ qs, ap (λ ls. ls ++ qs) f.2 ∙ append_assoc f.0 f.1 qs, f.3, counted_append xs ys f.1 qs f.4 g)

    one_counted : (piece : Piece) (ls : List (List ℕ)) → IsCountedPiece bounds workers program table text piece ls → IsCountedOutput bounds workers program table text (piece ∷ []) ls
    one_counted piece ls counted =
        let whole : ls ≡ ls ++ [] = grind (arith, common_steps) in
        (ls, [], whole, counted, refl)

    pub one_more_counted : (xs : List Piece) (i : ℕ) (d : Piece) → i < length xs → (ps qs : List (List ℕ)) → IsCountedOutput bounds workers program table text (take i xs) ps
        → IsCountedPiece bounds workers program table text (get_or xs i d) qs → IsCountedOutput bounds workers program table text (take (i + 1) xs) (ps ++ qs)
    one_more_counted xs i d within ps qs before here =
        let to : take i xs ++ get_or xs i d ∷ [] ≡ take (i + 1) xs = grind (arith, common_steps) in
        subst (λ cs. IsCountedOutput bounds workers program table text cs (ps ++ qs)) to (counted_append (take i xs) (get_or xs i d ∷ []) ps qs before (one_counted (get_or xs i d) qs here))

-- ---- statuses

-- a call that ends with a status of its own answers none
pub closed_counts : (P : Status → Type 0) (t : Status) → (HasAnswered t → ⊥) → (r : Result Status Halt) → IfOk r (λ s. s ≡ t) → IfOk r (λ s. HasAnswered s → P s)
closed_counts P t never (Ok s) is = λ h. absurd (never (subst HasAnswered is h))
closed_counts P t never (Err e) is = tt

pub counts_map : (a b : Option (List (List ℕ))) (F G : Status → List (List ℕ) → Type 0) → ((s : Status) (ls : List (List ℕ)) → F s ls → G s ls) → (r : Result Status Halt)
    → IfOk r (λ s. HasAnswered s → Puts a b (F s)) → IfOk r (λ s. HasAnswered s → Puts a b (G s))
counts_map a b F G f (Ok s) puts = λ h. puts_map a b (F s) (G s) (f s) (puts h)
counts_map a b F G f (Err e) puts = tt

pub given_up_counts : (A : Type 0) (s : Status) → (s ≡ status.NoMemory) ⊎ (s ≡ status.SinkFault) → HasAnswered s → A
given_up_counts A s (inl is) h = absurd (subst HasAnswered is h)
given_up_counts A s (inr is) h = absurd (subst HasAnswered is h)

-- ---- layers

module _ (what : Asked) (program : Program) (table : List (List ℕ)) (source : Option (List ℕ)) where
  whole_status : (spent refused : Bool) (s : Status) (ls : List (List ℕ)) → s ≡ status_of (tally spent refused) → SourceCounted what program table source status.Done ls → SourceCounted what program table source s ls
  whole_status spent true s ls is whole = subst (λ t. SourceCounted what program table source t ls) (sym is) whole
  whole_status true false s ls is whole = subst (λ t. SourceCounted what program table source t ls) (sym is) whole
  whole_status false false s ls is whole = subst (λ t. SourceCounted what program table source t ls) (sym is) whole

  -- a source that was read to its end
  pub whole_counts : (input : List ℕ) → IsTold source input → (spent refused : Bool) (s : Status) → s ≡ status_of (tally spent refused) → (ls : List (List ℕ))
      → IsCountedOutput (bounds_of what) what.workers program table input (judged true input) ls → SourceCounted what program table source s ls
  whole_counts input told spent refused s is ls out = whole_status spent refused s ls is (input, told, out)

  -- what was taken before a fault
  pub fault_counts : (taken : List ℕ) → IsTaken source taken → (a b c : Option (List (List ℕ))) (r : Result Status Halt)
      → Puts a b (IsCountedOutput (bounds_of what) what.workers program table taken (judged false taken))
      → Finishes b c (λ s put. (s ≡ status.SourceFault) × (put ≡ codes "fault: source\n" ∷ [])) r → IfOk r (λ s. HasAnswered s → Puts a c (SourceCounted what program table source s))
  fault_counts taken first a b c (Ok s) puts more =
      λ h. puts_then a b c (IsCountedOutput (bounds_of what) what.workers program table taken (judged false taken)) (λ put. (s ≡ status.SourceFault) × (put ≡ codes "fault: source\n" ∷ [])) (SourceCounted what program table source s)
      (λ ps qs out e. subst (λ t. SourceCounted what program table source t (ps ++ qs)) (sym e.0) (taken, ps, first, ap (λ ls. ps ++ ls) e.1, out)) puts more
  fault_counts taken first a b c (Err e) puts more = tt

pub file_counts : (what : Asked) (entries : Option (List (List ℕ × List ℕ))) (source : Option (List ℕ)) (bytes : List ℕ) → HasContent entries what.file (λ content. bytes ≡ content)
    → (s : Status) (ls : List (List ℕ)) → TextCounted what bytes source s ls → FileCounted what entries source s ls
file_counts what None source bytes has s ls h = (bytes, tt, h)
file_counts what (Some entries) source bytes has s ls h = (bytes, (has.0, has.1, sym has.2), h)

pub load_counts : (a b : Option (List (List ℕ))) (P Q : List (List ℕ) → Type 0) → ((ls : List (List ℕ)) → P ls → Q ls) → (r : Result Status Halt) → IfOk r (λ _. Puts a b P) → IfOk r (λ s. HasAnswered s → Puts a b Q)
load_counts a b P Q f (Ok s) puts = λ h. puts_map a b P Q f puts
load_counts a b P Q f (Err e) puts = tt

-- a command that answers no query
pub none_counts : (a b : Option (List (List ℕ))) (E : Status → List (List ℕ) → Type 0) (r : Result Status Halt) → Finishes a b E r → IfOk r (λ s. HasAnswered s → Puts a b (λ _. ⊤))
none_counts a b E (Ok s) puts = λ h. puts_map a b (E s) (λ _. ⊤) (λ ls e. tt) puts
none_counts a b E (Err e) puts = tt
