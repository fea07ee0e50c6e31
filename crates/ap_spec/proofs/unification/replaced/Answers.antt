use Rattle.std.proofs.Common.{◌∙◌, ap, sym, Some}
use Rattle.ap_term.specs.Unification.{both, replaced_by}
use Rattle.ap_spec.specs.Pairs.{bound_by}
use Rattle.ap_spec.proofs.Apart.{replaced_by-turn, replaced_by-done}
use Rattle.ap_spec.proofs.unification.replaced.Goals as goal

pub loop-equation-preserved-else-not-branch : goal.loop-equation-preserved-else-not-branch
loop-equation-preserved-else-not-branch c =
    replaced_by-turn (bound_by c.args.one.now) _ _ _ _ _ (rw c.if-not-branch.false at c.in_ok-replace_one.ensures)
    (ap (λ es. both (Some c.loop-equation.next) (replaced_by (bound_by c.args.one.now) es)) (sym c.in-Some.ensures) ∙ c.loop-equation.invariant)

pub returns : goal.returns
returns c = replaced_by-done (bound_by c.args.one.now) _ _ _ c.in_default.ensures c.loop-equation.invariant
