use Rattle.ap_term.specs.TermView.{tree_of}
use Rattle.ap_patterns.specs.Given.{patterns}
use Rattle.ap_fixpoint.proofs.Unreached.{uncalled-clause}
use Rattle.ap_fixpoint.proofs.clauses.add_clause.Goals as goal

pub returns-then-is_unreachable : goal.returns-then-is_unreachable
returns-then-is_unreachable c =
    uncalled-clause (patterns c.args.table.now) c.args.clause.now (tree_of c.head-head.result.now) c.called-called.result.now c.args.given.now.items c.head-head.ensures.head c.called-called.ensures
    (c.is_unreachable.ensures c.if-is_unreachable.true)
