use Rattle.std.proofs.Common.{map, ◌∙◌}
use Rattle.ap_term.specs.TermView.{tree_of}
use Rattle.ap_term.specs.GoalView.{part_of}
use Rattle.ap_patterns.specs.Given.{patterns}
use Rattle.ap_fixpoint.proofs.Unreached.{idle-clause}
use Rattle.ap_fixpoint.proofs.clauses.add_analysed.Goals as goal

pub returns-then-is_idle : goal.returns-then-is_idle
returns-then-is_idle c =
    idle-clause (patterns c.args.table.now) c.args.clause.now c.args.called.now (tree_of c.head-head.result.now) (map part_of c.as_slice-parts.result.now) c.args.given.now.items c.head-head.ensures.head
    (c.as_slice-parts.ensures ∙ c.body.ensures.body) (c.is_idle.ensures c.if-is_idle.true)
