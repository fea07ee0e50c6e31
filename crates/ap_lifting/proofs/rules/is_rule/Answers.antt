use Rattle.std.proofs.Common.{ap}
use Rattle.ap_term.specs.TermView.{tree_of}
use Rattle.ap_lifting.specs.BodyView.{body_if}
use Rattle.ap_lifting.proofs.GoalRows.{row_rule}
use Rattle.ap_lifting.proofs.rules.is_rule.Goals as goal

pub returns-in-Row : goal.returns-in-Row
returns-in-Row c =
    row_rule (tree_of c.args.head.now) c.in-Row.row c.goals.result.now (body_if c.args.body.now) c.args.vars c.args.line c.goals.ensures.calls (ap body_if c.in-Row.is) c.goals.ensures.goals c.is_clause.ensures
