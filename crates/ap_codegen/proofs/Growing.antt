-- Tables that grow, and what instructions say by them.
use Rattle.std.proofs.Common.{◌≡◌, ℕ, zero, suc, ◌+◌, ◌<◌, ◌≤◌, Bool, true, false, if◌then◌else◌, ◌⊎◌, inl, inr, List, [], ◌∷◌, ◌++◌, length, take, get_or, slice_get, Some, refl, ap, sym, ◌∙◌, subst, arith}
use Rattle.std.proofs.lemmas.List.{take_more, take_all}
use Rattle.ap_instr.specs.declared.instruction.Instr.{Instr}
use Rattle.ap_instr.specs.Code.{Compiled}
use Rattle.ap_instr.specs.Step.{step_of as said_by}
use Rattle.ap_codegen.specs.declared.steps.Step.{Step as Emitted}
use Rattle.ap_codegen.specs.Emitted.{step_of}
use Rattle.ap_codegen.specs.Said.{special_of, special_in, IsSaidAt, AreSaidAt}
use Rattle.ap_codegen.specs.Assembled.{Numbered, Keeps, Grows, Holds}

-- ---- tables

keeps_append : {A : Type 0} (xs ys : List A) → Keeps xs (xs ++ ys)
keeps_append [] ys i x e = cc
keeps_append (x ∷ xs) ys zero y e = e
keeps_append (x ∷ xs) ys (suc i) y e = keeps_append xs ys i y e

pub keeps_insert : {A : Type 0} (b : Bool) (xs new : List A) (x : A) → new ≡ (if b then xs else xs ++ x ∷ []) → Keeps xs new
keeps_insert true xs new x e i y h = ap (λ l. slice_get l i) e ∙ h
keeps_insert false xs new x e i y h = ap (λ l. slice_get l i) e ∙ keeps_append xs (x ∷ []) i y h

pub push_get : {A : Type 0} (xs : List A) (y x : A) (n : ℕ) → slice_get (xs ++ y ∷ []) n ≡ Some x → (slice_get xs n ≡ Some x) ⊎ ((n ≡ length xs) × (y ≡ x))
push_get [] y x zero e = inr (refl, cc)
push_get [] y x (suc n) e = cc
push_get (z ∷ xs) y x zero e = inl e
push_get (z ∷ xs) y x (suc n) e = elim (push_get xs y x n e) [ inl h ↦ inl h | inr h ↦ inr (ap suc h.0, h.1) ]

pub grows_on : (s t u : Numbered) → Grows s t → Grows t u → Grows s u
grows_on s t u g h = record {
  integers = λ i x e. h.integers i x (g.integers i x e);
  predicates = λ i x e. h.predicates i x (g.predicates i x e);
}

pub holds_less : (s t : Numbered) (code : Compiled) → Grows s t → Holds t code → Holds s code
holds_less s t code g h = record {
  integers = λ i x e. h.integers i x (g.integers i x e);
  predicates = λ i k e. h.predicates i k (g.predicates i k e);
}

-- ---- instructions

said_push : (code : Compiled) (at : ℕ) (es : List Emitted) (is : List Instr) (e : Emitted) (i : Instr) → AreSaidAt code at es is → IsSaidAt code (at + length is) e i → AreSaidAt code at (es ++ e ∷ []) (is ++ i ∷ [])
said_push code at [] [] e i h r = (let z : at + 0 ≡ at = omega arith in subst (λ n. IsSaidAt code n e i) z r, tt)
said_push code at [] (j ∷ is) e i h r = absurd h
said_push code at (d ∷ es) [] e i h r = absurd h
said_push code at (d ∷ es) (j ∷ is) e i h r = (h.0, said_push code (at + 1) es is e i h.1 (let z : at + suc (length is) ≡ at + 1 + length is = omega arith in subst (λ n. IsSaidAt code n e i) z r))

-- one more instruction
pub said_turn : (code : Compiled) (start : ℕ) (steps : List Emitted) (i at : ℕ) (step : Emitted) (o0 o1 : List Instr) (instr : Instr) → i < length steps → step ≡ get_or steps i step
    → o1 ≡ o0 ++ instr ∷ [] → at ≡ start + length o0 → said_by code instr ≡ step_of step → special_of instr ≡ special_in at step → AreSaidAt code start (take i steps) o0 → AreSaidAt code start (take (i + 1) steps) o1
said_turn code start steps i at step o0 o1 instr l e o a s f h =
    let front : take (i + 1) steps ≡ take i steps ++ step ∷ [] = take_more steps i step l ∙ ap (λ d. take i steps ++ d ∷ []) (sym e) in
    subst (λ es. AreSaidAt code start es o1) (sym front)
    (subst (AreSaidAt code start (take i steps ++ step ∷ [])) (sym o)
    (said_push code start (take i steps) o0 step instr h (subst (λ n. IsSaidAt code n step instr) a (record { says = s; special = f }))))

-- no instruction is left
pub said_end : (code : Compiled) (start : ℕ) (steps : List Emitted) (o : List Instr) (i : ℕ) → length steps ≤ i → AreSaidAt code start (take i steps) o → AreSaidAt code start steps o
said_end code start steps o i l h = subst (λ es. AreSaidAt code start es o) (take_all i steps l) h
