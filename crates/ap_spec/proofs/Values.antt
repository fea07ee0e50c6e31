-- Values of 64 bits.
use Rattle.std.proofs.Common.{◌≡◌, ◌≤◌, List, [], ◌∷◌, length, ℕ, ◌^◌, ◌<◌, Bool, true, false, if◌then◌else◌, Option, Some, None, ℤ, pos, negsuc, w64, refl, ap, sym, ◌∙◌, arith, rules}
use Rattle.std.specs.Option.{SomeIff}
use Rattle.std.specs.Prelude.{Ok, Err, ok_or, FitsSigned, int_rem, int_lt, ◌+ℤ◌}
use Rattle.std.proofs.lemmas.Bool.Decides.{nat_tests}
use Rattle.std.proofs.lemmas.Bool.{false≢true}
use Rattle.std.proofs.lemmas.Int.{to_z-of_z, ints}
use Rattle.std.specs.Ordering.{int_eq}
use mathlib.Core.Bool.{beq}
use mir.Val.{to_z, of_z}
use Rattle.ap_term.specs.Arithmetic.{fits, kept, divided, same_sign, moved, modulo, evaluated}
use Rattle.ap_term.specs.declared.faults.Fault.TheVariants.{WrongType, ZeroDivisor, Overflow}
use Rattle.ap_term.specs.declared.terms.Term.{Term}
use Rattle.ap_term.specs.Builtins.{builtin}
use Rattle.ap_term.specs.Tree.{node}
use Rattle.ap_term.specs.TermView.{trees_of}
use Rattle.ap_term.proofs.TermLists.{trees_of-two}

pub fits-signed : (z : ℤ) → FitsSigned w64 z → fits z ≡ true
fits-signed (pos n) h = grind (arith, nat_tests)
fits-signed (negsuc n) h = grind (arith, nat_tests)

pub signed-fits : (z : ℤ) → fits z ≡ true → FitsSigned w64 z
signed-fits (pos n) h = record { sfits = grind (arith, nat_tests) }
signed-fits (negsuc n) h = record { sfits = grind (arith, nat_tests) }

pub kept-signed : (z : ℤ) → FitsSigned w64 z → kept z ≡ Ok z
kept-signed z h = ap (λ b. if b then Ok z else Err Overflow) (fits-signed z h)

pub kept-if : (r : Option ℤ) (z : ℤ) → SomeIff r (FitsSigned w64 z) z → ok_or r Overflow ≡ kept z
kept-if (Some x) z h = ap Ok h.1 ∙ sym (kept-signed z h.0)
kept-if None z h = go (fits z) refl
  where
    go : (b : Bool) → fits z ≡ b → Err Overflow ≡ (if b then Ok z else Err Overflow)
    go true e = absurd (h (signed-fits z e))
    go false e = refl

-- the tests of two signs
pub signs-differ : (r y : ℤ) → FitsSigned w64 r → FitsSigned w64 y → beq (int_lt (to_z w64 (of_z w64 r)) (pos 0)) (int_lt (to_z w64 (of_z w64 y)) (pos 0)) ≡ false → same_sign r y ≡ false
signs-differ r y hr hy h = go r y (rw (to_z-of_z w64 r hr, to_z-of_z w64 y hy) at h)
  where
    go : (r y : ℤ) → beq (int_lt r (pos 0)) (int_lt y (pos 0)) ≡ false → same_sign r y ≡ false
    go (pos a) (pos b) k = absurd (grind (arith, ints))
    go (pos a) (negsuc b) k = refl
    go (negsuc a) (pos b) k = refl
    go (negsuc a) (negsuc b) k = absurd (false≢true (sym k))

-- integers on the two sides of 0
pub sum-fits : (r y : ℤ) → FitsSigned w64 r → FitsSigned w64 y → same_sign r y ≡ false → FitsSigned w64 (r +ℤ y)
sum-fits (pos a) (pos b) hr hy h = absurd (false≢true (sym h))
sum-fits (pos a) (negsuc b) hr hy h = let u : a < 2 ^ 63 = hr.sfits in let v : b < 2 ^ 63 = hy.sfits in search rules
sum-fits (negsuc a) (pos b) hr hy h = let u : a < 2 ^ 63 = hr.sfits in let v : b < 2 ^ 63 = hy.sfits in search rules
sum-fits (negsuc a) (negsuc b) hr hy h = absurd (false≢true (sym h))

kept-ok : (z r : ℤ) → Ok r ≡ kept z → r ≡ z
kept-ok z r h = go (fits z) h
  where
    go : (b : Bool) → Ok r ≡ (if b then Ok z else Err Overflow) → r ≡ z
    go true k = cc
    go false k = cc

divided-ok : (y z r : ℤ) → Ok r ≡ divided y z → (int_eq y (pos 0) ≡ false) × (r ≡ z)
divided-ok y z r h = go (int_eq y (pos 0)) refl h
  where
    go : (b : Bool) → int_eq y (pos 0) ≡ b → Ok r ≡ (if b then Err ZeroDivisor else kept z) → (int_eq y (pos 0) ≡ false) × (r ≡ z)
    go true e k = cc
    go false e k = (e, kept-ok z r k)

-- a remainder on the other side of 0 than the divisor
pub modulo-moved : (x y r : ℤ) → Ok r ≡ divided y (int_rem x y) → int_eq r (pos 0) ≡ false → same_sign r y ≡ false → FitsSigned w64 (r +ℤ y)
    → Ok (r +ℤ y) ≡ divided y (modulo x y)
modulo-moved x y r h z s f =
    let k = divided-ok y (int_rem x y) r h in
    let m : moved y r ≡ r +ℤ y = ap (λ b. if b then r else (if same_sign r y then r else r +ℤ y)) z ∙ ap (λ b. if b then r else r +ℤ y) s in
    sym (kept-signed (r +ℤ y) f) ∙ ap kept (sym m) ∙ ap (λ b. if b then Err ZeroDivisor else kept (moved y r)) (sym k.0) ∙ ap (λ w. divided y (moved y w)) k.1

pub ruleset rules_of_values = (kept-if, kept-signed)

-- three arguments and more are no operation's
pub evaluated-many : (a : ℕ) (ts : List Term) → 3 ≤ length ts → evaluated (node a (trees_of ts)) ≡ Err WrongType
evaluated-many a [] h = absurd (omega arith)
evaluated-many a (t ∷ []) h = absurd (omega arith)
evaluated-many a (t ∷ (u ∷ [])) h = absurd (omega arith)
evaluated-many a (t ∷ (u ∷ (v ∷ ts))) h = refl

-- no goal of another number of arguments is a built-in
pub builtin_other : (a : ℕ) (ts : List Term) → (length ts ≡ 2 → ⊥) → builtin (node a (trees_of ts)) ≡ None
builtin_other a [] h = refl
builtin_other a (t ∷ []) h = refl
builtin_other a (t ∷ (u ∷ [])) h = absurd (h refl)
builtin_other a (t ∷ (u ∷ (v ∷ ts))) h = refl

pub ruleset rules_of_pairs = (builtin_other, trees_of-two)
