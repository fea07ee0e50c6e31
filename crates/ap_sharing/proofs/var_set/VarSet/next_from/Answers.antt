use Rattle.std.proofs.Common.{inl, inr, ap, sym, ◌∙◌, arith}
use Rattle.std.proofs.lemmas.Bool.{cases_lt}
use Rattle.ap_sharing.specs.VarSet.{has}
use Rattle.ap_sharing.proofs.Words.{has_past}
use Rattle.ap_sharing.proofs.var_set.VarSet.next_from.Goals as goal

pub returns-clause-found : goal.returns-clause-found
returns-clause-found c y h =
    elim (cases_lt y 256) [
      | inl l ↦ c.loop-y.invariant y h (omega (arith, c.loop-y-test.false))
      | inr l ↦ ap (λ s. has s y) (sym c.self.view_is) ∙ has_past c.self.inside.high c.self.inside.low y c.self.invariant.0 c.self.invariant.1 l
    ]
