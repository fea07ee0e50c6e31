use Rattle.std.proofs.Common.{ap, sym, ◌∙◌}
use Rattle.std.specs.Prelude.{not}
use Rattle.ap_term.specs.TermView.{tree_of}
use Rattle.ap_clause.specs.Clause.{is_goal, body_in}
use Rattle.ap_clause.proofs.GoalRows.{is_goal-node}
use Rattle.ap_clause.proofs.clause.is_goal.Goals as goal

pub returns-in_default-connective_at : goal.returns-in_default-connective_at
returns-in_default-connective_at c =
    ap not c.is_pair.ensures ∙ is_goal-node c.connective_at.result c.in-Node.name c.in-Node.args (sym c.connective_at.ensures) c.in_default-connective_at.not-Other
    ∙ sym (ap (λ t. is_goal (body_in (tree_of t))) c.in-Node.is)
