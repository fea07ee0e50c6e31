use Rattle.std.proofs.Common.{◌∙◌, ap, sym, length}
use Rattle.ap_term.specs.TermView.{tree_of}
use Rattle.ap_term.specs.Vars.{add_vars}
use Rattle.ap_spec.proofs.Apart.{begun}
use Rattle.ap_spec.proofs.Eliminations.{solution-found, solution-none}
use Rattle.ap_spec.proofs.unification.solution.Goals as goal

pub returns-in-Some : goal.returns-in-Some
returns-in-Some c =
    solution-found _ _ _ _ _ _ (begun _ _ _ c.new-equations.ensures (rw c.if-not-branch.false at c.in_ok-apart.ensures))
    (sym (ap length (c.as_slice.ensures.value ∙ c.in_ok-add_vars.ensures ∙ ap (add_vars (tree_of c.args.b.now)) c.in_ok-variables.ensures)))
    (rw c.in-Some.is at c.in_ok-bound.ensures) c.in_ok-resolved-in-Some.ensures

pub returns : goal.returns
returns c =
    solution-none _ _ _ _ (begun _ _ _ c.new-equations.ensures (rw c.if-not-branch.false at c.in_ok-apart.ensures))
    (sym (ap length (c.as_slice.ensures.value ∙ c.in_ok-add_vars.ensures ∙ ap (add_vars (tree_of c.args.b.now)) c.in_ok-variables.ensures)))
    (rw c.in-None.is at c.in_ok-bound.ensures)
