-- Heads that unify with a call.
use Rattle.std.proofs.Common.{◌≡◌, ℕ, ◌+◌, true, false, if◌then◌else◌, List, ◌∷◌, Some, slice_get, refl, ap, sym, ◌∙◌, subst}
use Rattle.ap_term.specs.Tree.{Tree, var}
use Rattle.ap_term.specs.Substitution.{instance, value, one}
use Rattle.ap_term.proofs.Solutions.{same_test}
use Rattle.ap_cells.specs.declared.cells.Raw.{Raw}
use Rattle.ap_cells.specs.Trees.{tree_at, trees}
use Rattle.ap_instr.specs.declared.instruction.Instr.{Instr}
use Rattle.ap_instr.specs.Code.{Compiled}
use Rattle.ap_instr.specs.Steps.{steps_from, skipped}
use Rattle.ap_instr.proofs.Steps.{steps_law}
use Rattle.ap_instr.specs.Runs.{IsOpen, AsksOpenly}
use Rattle.ap_needs.specs.Needs.{is_transfer}
use Rattle.ap_match.specs.Fits.{Fits}
use Rattle.ap_match.proofs.Maps.{fits-own}
use Rattle.ap_steps.specs.Moves.{held, IsStuck}
use Rattle.ap_control.specs.Runs.{Ran, IsTransferAt}
use Rattle.ap_index.specs.declared.opening.Way.TheVariants.{Goal, Other}
use Rattle.ap_index.specs.Opening.{LeadsBy}
use Rattle.ap_control.specs.Taking.{CanAsk}

-- an unbound variable takes each tree
pub takes-tree : (cs : List Raw) (p x : ℕ) (t : Tree) → tree_at (trees cs) p ≡ var x → (k : ℕ → Tree) × Fits cs k × (k p ≡ t)
takes-tree cs p x t e =
    let by : ℕ → Tree = value (one x t) in
    let here : by x ≡ t = ap (λ b. if b then t else var x) (same_test x x refl) in
    (λ i. instance by (tree_at (trees cs) i), (by, λ i l. refl), ap (instance by) e ∙ here)

-- ---- a run up to an instruction of control

-- one that leads to the next instruction, or asks for nothing
module _ (code : Compiled) (at : ℕ) (i : Instr) (stands : slice_get code.instructions at ≡ Some i) (transfer : IsTransferAt code at) where
  is-transfer : is_transfer i ≡ true
  is-transfer = let e : Some i ≡ Some transfer.0 = sym stands ∙ transfer.1 in let same : i ≡ transfer.0 = cc in ap is_transfer same ∙ transfer.2

  pub none-on : is_transfer i ≡ false → ⊥
  none-on e = let t = is-transfer in let z : ⊥ = cc in z

  pub stuck-there : LeadsBy code i Other → (cs : List Raw) (x y : ℕ → ℕ) → IsStuck cs x y (steps_from code at)
  stuck-there leads cs x y =
      subst (IsStuck cs x y) (sym (steps_law code at i stands ∙ ap (λ j. j ∷ steps_from code (at + 1 + skipped i at)) (leads is-transfer))) (λ k bs a. a.1)

  pub opens-there : LeadsBy code i Goal → AsksOpenly (steps_from code at) → IsOpen (steps_from code at)
  opens-there leads o =
      let here = steps_law code at i stands in
      subst IsOpen (sym here) (leads (steps_from code (at + 1 + skipped i at)) (subst AsksOpenly here o))

-- what is asked for there is asked for where the run began
pub ran-takes : (code : Compiled) (at to : ℕ) (cs ds : List Raw) (x y x' y' : List ℕ) → Ran code at cs x y to ds x' y' → (AsksOpenly (steps_from code to) → IsOpen (steps_from code to))
    → AsksOpenly (steps_from code at) → CanAsk cs (held x) (held y) (steps_from code at)
ran-takes code at to cs ds x y x' y' r opens openly =
    let k : ℕ → Tree = tree_at (trees ds) in
    let o = opens (r.openly openly) (λ w. k (held x' w)) (λ w. k (held y' w)) in
    (k, o.0, r.moves.back k o.0 (fits-own ds, o.1))
