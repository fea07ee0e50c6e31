use Rattle.std.proofs.Common.{◌≡◌, ◌<◌, true, ap, sym, subst, ◌∙◌, arith}
use Rattle.ap_term.specs.Tree.{node, more, none, size}
use Rattle.ap_term.specs.TermView.{tree_of}
use Rattle.ap_clause.specs.Clause.{is_row, body_in}
use Rattle.ap_clause.proofs.GoalRows.{row_parted}
use Rattle.ap_clause.proofs.clause.+add_goals.Goals as goal

pub add_goals-requires : goal.add_goals-requires
add_goals-requires t c =
    let f = c.in-Node.name in
    let first = tree_of c.in-Ok.first in
    let rest = tree_of c.in-Ok.rest in
    let whole : tree_of c.args.t ≡ node f (more first (more rest none)) = ap tree_of c.in-Node.is ∙ ap (node f) c.in-Ok.ensures in
    let smaller : size rest < t = omega (arith, ap size whole, c.decreases) in
    (smaller, (row_parted f first rest (sym c.connective_at.ensures ∙ c.in-And.is) (subst (λ u. is_row (body_in u) ≡ true) whole c.requires)).1)
