-- Code that is laid out clause by clause is sound.
use Rattle.std.proofs.Common.{◌≡◌, ℕ, zero, suc, ◌+◌, ◌-◌, ◌<◌, ◌≤◌, inl, inr, List, [], ◌∷◌, take, drop, Some, refl, subst, arith}
use Rattle.std.specs.List.{slice_get}
use Rattle.std.proofs.lemmas.Option.{slice_get_within}
use Rattle.ap_instr.specs.declared.instruction.Instr.{Instr}
use Rattle.ap_instr.specs.declared.compiled.Predicate.{Predicate}
use Rattle.ap_instr.specs.Code.{Compiled}
use Rattle.ap_codecheck.specs.declared.rule.Rule.{Rule}
use Rattle.ap_codecheck.specs.declared.rule.Rule.TheVariants.{Operand, Target, Unset, Environment, Argument, Group, End, Called}
use Rattle.ap_codecheck.specs.Shape.{Shape, entry, after}
use Rattle.ap_codecheck.specs.Paths.{IsPlaceOf}
use Rattle.ap_codecheck.specs.Judged.{KeepsWith, KeepsBelow, IsFineFrom, IsJudged, KeepsAll}
use Rattle.ap_codecheck.specs.Walk.{Fits, Walks, IsLaid}
use Rattle.ap_codecheck.specs.Laws.{LaidLaw}
use Rattle.ap_codecheck.proofs.Ways.{fine-on, leads-where, elsewhere-forward}
use Rattle.ap_codecheck.proofs.Tried.{keeps-all, sound-all}
use Rattle.ap_term.proofs.Lists.{drop-here}

first_held : {A : Type 0} (xs : List A) (n : ℕ) (x : A) (ys : List A) → drop n xs ≡ x ∷ ys → slice_get xs n ≡ Some x
first_held [] zero x ys e = cc
first_held [] (suc n) x ys e = cc
first_held (z ∷ xs) zero x ys e = cc
first_held (z ∷ xs) (suc n) x ys e = first_held xs n x ys e

taken_held : {A : Type 0} (xs : List A) (m n : ℕ) (x : A) → slice_get (take m xs) n ≡ Some x → (slice_get xs n ≡ Some x) × (n < m)
taken_held [] zero n x e = cc
taken_held [] (suc m) n x e = cc
taken_held (z ∷ xs) zero n x e = cc
taken_held (z ∷ xs) (suc m) zero x e = (e, omega arith)
taken_held (z ∷ xs) (suc m) (suc n) x e = (let more = taken_held xs m n x e in let less : n < m = more.1 in (more.0, omega arith))

kept : (code : Compiled) (at : ℕ) (s : Shape) (i : Instr) → Fits code i at s → (rule : Rule) → KeepsWith rule code i at s
kept code at s i f Unset = f.reads
kept code at s i f Environment = f.environment
kept code at s i f Argument = f.turn
kept code at s i f Group = f.group
kept code at s i f End = f.on
kept code at s i f Operand = tt
kept code at s i f Target = tt
kept code at s i f Called = tt

judged : (code : Compiled) (at : ℕ) (s : Shape) (i : Instr) → slice_get code.instructions at ≡ Some i → Fits code i at s → IsJudged code at s
judged code at s i e f rule j g =
    let same : i ≡ j = cc in
    let P : Instr → Type 0 = λ k. KeepsWith rule code k at s in
    subst P same (kept code at s i f rule)

rest_held : {A : Type 0} (xs : List A) (n : ℕ) (x : A) (ys : List A) → drop n xs ≡ x ∷ ys → drop (n + 1) xs ≡ ys
rest_held xs n x ys e = let laid = drop-here xs n x (first_held xs n x ys e) in cc

walked : (code : Compiled) (p : Predicate) (is : List Instr) (at n : ℕ) (s : Shape) → drop at (take p.end code.instructions) ≡ is → p.start ≤ at → Walks code at n is s → IsFineFrom code p (at + n) s
walked code p [] at n s d h w = absurd w
walked code p (i ∷ is) at (suc n) s d h w =
    let rest : drop (at + 1) (take p.end code.instructions) ≡ is = rest_held (take p.end code.instructions) at i is d in
    let P : ℕ → Type 0 = λ k. IsFineFrom code p k s in
    let same : at + 1 + n ≡ at + suc n = omega arith in
    subst P same (walked code p is (at + 1) n s rest (omega arith) w)
walked code p (i ∷ is) at zero s d h w =
    let front = first_held (take p.end code.instructions) at i is d in
    let found = taken_held code.instructions p.end at i front in
    let place : IsPlaceOf code p at = record { from = h; before = found.1; held = slice_get_within code.instructions at i found.0 } in
    let rest : drop (at + 1) (take p.end code.instructions) ≡ is = rest_held (take p.end code.instructions) at i is d in
    let P : ℕ → Type 0 = λ k. IsFineFrom code p k s in
    let same : at ≡ at + 0 = omega arith in
    subst P same (fine-on code p at s i place found.0 (judged code at s i found.0 w.0) (λ to l.
    elim (leads-where i at to l) as (λ _. IsFineFrom code p to (after i s)) [
      | inl q ↦ (
          let Q : ℕ → Type 0 = λ k. IsFineFrom code p k (after i s) in
          let there : at + 1 + 0 ≡ to = omega (arith, q.1) in
          subst Q there (walked code p is (at + 1) 0 (after i s) rest (omega arith) (w.1 q.0)))
      | inr e ↦ (
          let Q : ℕ → Type 0 = λ k. IsFineFrom code p k (after i s) in
          let further : at < to = elsewhere-forward i at to w.0.on e in
          let there : at + 1 + (to - (at + 1)) ≡ to = omega arith in
          subst Q there (walked code p is (at + 1) (to - (at + 1)) (after i s) rest (omega arith) (w.2 to e)))
    ]))

below : (code : Compiled) (p : Predicate) → IsLaid code p → KeepsBelow code p p.end
below code p l Operand at place lt = l.range at place
below code p l Target at place lt = l.inside at place
below code p l Called at place lt = l.known at place
below code p l Unset at place lt = λ i e. tt
below code p l Environment at place lt = λ i e. tt
below code p l Argument at place lt = λ i e. tt
below code p l End at place lt = λ i e. tt
below code p l Group at place lt = λ i e. tt

laid_keeps : (code : Compiled) (p : Predicate) → IsLaid code p → KeepsAll code p
laid_keeps code p l =
    keeps-all code p (below code p l) (record { clauses = λ k at e. (let w = l.clauses k at e in (let P : ℕ → Type 0 = λ k. IsFineFrom code p k (entry p.arity) in let same : at + 0 ≡ at = omega arith in subst P same (walked code p (drop at (take p.end code.instructions)) at 0 (entry p.arity) refl w.0 w.1))); awaited = l.choices; start = l.start })

pub laid-sound : LaidLaw
laid-sound code laid query =
    sound-all code query (λ number p e. laid_keeps code p (laid number p e))
