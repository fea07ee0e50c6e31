use Rattle.std.proofs.Common.{◌++◌, ap, sym, ◌∙◌}
use Rattle.ap_term.specs.TermView.{tree_of}
use Rattle.ap_lifting.specs.Row.{row_if}
use Rattle.ap_clause.specs.Clause.{body_in, goals_in}
use Rattle.ap_clause.proofs.GoalRows.{row_if-goals_in}
use Rattle.ap_clause.proofs.clause.rule_body.Goals as goal

pub returns-then-is_row : goal.returns-then-is_row
returns-then-is_row c =
    let body = body_in (tree_of c.args.t) in
    ap row_if (c.in_ok-add_goals.ensures ∙ ap (λ ps. ps ++ goals_in body) c.new-row.ensures) ∙ row_if-goals_in body (sym c.is_row.ensures ∙ c.if-is_row.true)
