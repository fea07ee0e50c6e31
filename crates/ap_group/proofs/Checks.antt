-- Checks of a group, one by one.
use Rattle.std.proofs.Common.{◌≡◌, ◌↔◌, ℕ, ◌+◌, ◌<◌, Bool, true, false, List, ◌∷◌, length, slice_get, Some, refl, ap, sym, ◌∙◌, subst}
use Rattle.ap_term.specs.Independence.{IsGround, SharesNoVariable}
use Rattle.ap_cells.specs.declared.cells.Raw.{Raw}
use Rattle.ap_cells.specs.Trees.{tree_at, trees}
use Rattle.ap_instr.specs.declared.instruction.Slot.{Slot}
use Rattle.ap_instr.specs.declared.instruction.Slot.TheVariants.{X, Y}
use Rattle.ap_instr.specs.declared.instruction.Instr.{Instr}
use Rattle.ap_instr.specs.declared.instruction.Instr.TheVariants.{CheckGround, CheckIndep, AllocParcall}
use Rattle.ap_instr.specs.Code.{Compiled}
use Rattle.ap_instr.specs.Step.{group}
use Rattle.ap_instr.specs.Steps.{steps_from}
use Rattle.ap_instr.specs.Groups.{otherwise}
use Rattle.ap_instr.specs.Runs.{read}
use Rattle.ap_steps.specs.Moves.{held, HoldPlaces}
use Rattle.ap_group.specs.declared.checking.Check.{Check}
use Rattle.ap_group.specs.declared.checking.Check.TheVariants.{Holds, Fails}
use Rattle.ap_group.specs.Gathers.{Passes, begins, is_ground, are_apart, is_check, ComesToGroup, IsPlainWay}
use Rattle.ap_group.specs.Turns.{IsPast, ChecksTo}
use Rattle.ap_group.proofs.Ways.{steps-on}

module _ (cs : List Raw) (x y : List ℕ) (hx : HoldPlaces (length cs) x) (hy : HoldPlaces (length cs) y) where
  place-of : (v : Slot) → read v (held x) (held y) < length cs
  place-of (X n) = hx n
  place-of (Y n) = hy n

  pub ground-check : (v : Slot) (l : ℕ) (b : Bool) (t : Check) → (b ≡ true) ↔ IsGround (tree_at (trees cs) (read v (held x) (held y))) → (b ≡ true → t ≡ Holds) → (b ≡ false → t ≡ Fails l)
      → ChecksTo (CheckGround v l) cs x y t
  ground-check v l true t h on off =
      subst (ChecksTo (CheckGround v l) cs x y) (sym (on refl)) (record { passes = λ code is js p. is_ground v p (place-of v) (h.0 refl); goes_on = λ at. refl })
  ground-check v l false t h on off = subst (ChecksTo (CheckGround v l) cs x y) (sym (off refl)) (refl, λ g. let e : false ≡ true = h.1 g in cc)

  pub apart-check : (v w : Slot) (l : ℕ) (b : Bool) (t : Check) → (b ≡ true) ↔ SharesNoVariable (tree_at (trees cs) (read v (held x) (held y))) (tree_at (trees cs) (read w (held x) (held y)))
      → (b ≡ true → t ≡ Holds) → (b ≡ false → t ≡ Fails l) → ChecksTo (CheckIndep v w l) cs x y t
  apart-check v w l true t h on off =
      subst (ChecksTo (CheckIndep v w l) cs x y) (sym (on refl)) (record { passes = λ code is js p. are_apart v w p (place-of v) (place-of w) (h.0 refl); goes_on = λ at. refl })
  apart-check v w l false t h on off = subst (ChecksTo (CheckIndep v w l) cs x y) (sym (off refl)) (refl, λ g. let e : false ≡ true = h.1 g in cc)

  module _ (code : Compiled) (at place : ℕ) (i : Instr) (e : slice_get code.instructions place ≡ Some i) (p : Passes cs (held x) (held y) (steps_from code at) (steps_from code place)) where
    pub past : IsPast i cs x y → Passes cs (held x) (held y) (steps_from code at) (steps_from code (place + 1))
    past c = c.passes code (steps_from code at) (steps_from code (place + 1)) (subst (Passes cs (held x) (held y) (steps_from code at)) (steps-on code place i e (c.goes_on place)) p)

    pub to-goals : (n l : ℕ) → i ≡ AllocParcall n l → Passes cs (held x) (held y) (steps_from code at) (group n ∷ steps_from code (place + 1))
    to-goals n l is =
        let f : slice_get code.instructions place ≡ Some (AllocParcall n l) = e ∙ ap Some is in
        subst (Passes cs (held x) (held y) (steps_from code at)) (steps-on code place (AllocParcall n l) f refl) p

module _ (code : Compiled) (place : ℕ) where
  pub comes-past : (i : Instr) → is_check i ≡ true → slice_get code.instructions place ≡ Some i → ComesToGroup (steps_from code (place + 1)) → ComesToGroup (steps_from code place)
  comes-past (CheckGround v l) b e h = subst ComesToGroup (sym (steps-on code place (CheckGround v l) e refl)) h
  comes-past (CheckIndep v w l) b e h = subst ComesToGroup (sym (steps-on code place (CheckIndep v w l) e refl)) h
  comes-past i b e h = cc

  pub comes-here : (n l : ℕ) → slice_get code.instructions place ≡ Some (AllocParcall n l) → ComesToGroup (steps_from code place)
  comes-here n l e = subst ComesToGroup (sym (steps-on code place (AllocParcall n l) e refl)) tt

  -- a check from which a group is come to leads to that group's goals, one after another, and so does its beginning
  pub way-here : (i : Instr) (to : ℕ) → slice_get code.instructions place ≡ Some i → otherwise i ≡ Some to → ComesToGroup (steps_from code place) → (cs : List Raw) (x y : List ℕ) → IsPlainWay code place cs x y to
  way-here i to e l c cs x y = record { from = place; check = i; stands = e; leads = l; passes = begins; comes = c }
