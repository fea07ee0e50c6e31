use Rattle.std.proofs.Common.{◌≡◌, ℕ, List, Option, Some, None, true, refl, ap, ◌∙◌, subst}
use Rattle.std.specs.Prelude.{IfSome}
use Rattle.ap_cells.specs.declared.cells.Raw.{Raw}
use Rattle.ap_steps.specs.Moves.{held}
use Rattle.ap_control.specs.declared.choosing.Possible.{Possible}
use Rattle.ap_control.specs.Taking.{CanTake}
use Rattle.ap_control.specs.Choosing.{Alike}
use Rattle.ap_machine.specs.View.{Paused}
use Rattle.ap_machine.proofs.state.Search.possible.Goals as goal

pub returns-clause-sure : goal.returns-clause-sure
returns-clause-sure c =
    let code = c.args.sound.now in
    let i = c.self.inside in
    let s = c.args.self.now in
    let ec = ap (λ (t : Paused). t.machine.cells) c.self.view_is in
    let ex = c.deref.ensures.value ∙ ap (λ (t : Paused). t.machine.x) c.self.view_is in
    elim c.next_possible.result as (λ (o : Option Possible). IfSome o (λ p. p.sure ≡ true → (z : ℕ → ℕ) → Alike 255 (held c.deref.result.now) z → CanTake code i.cells.cells z p.alternative.place) → IfSome o (λ p. p.sure ≡ true → CanTake code s.machine.cells (held s.machine.x) p.alternative.place)) [
      | None ↦ λ h. h
      | Some p ↦ λ h e.
          subst (λ (cs : List Raw). CanTake code cs (held s.machine.x) p.alternative.place) ec
          (subst (λ (xs : List ℕ). CanTake code i.cells.cells (held xs) p.alternative.place) ex (h e (held c.deref.result.now) (λ w l. refl)))
    ] c.next_possible.ensures.sure
