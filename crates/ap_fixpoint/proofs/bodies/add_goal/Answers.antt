use Rattle.ap_term.specs.TermView.{tree_of}
use Rattle.ap_patterns.specs.Given.{patterns, given_by_goal}
use Rattle.ap_fixpoint.proofs.Unreached.{nothing-more}
use Rattle.ap_fixpoint.proofs.bodies.add_goal.Goals as goal

pub returns-then-is_called_anyhow : goal.returns-then-is_called_anyhow
returns-then-is_called_anyhow c =
    nothing-more (patterns c.args.table.now) c.args.given.now.items (given_by_goal c.args.s.now (tree_of c.args.goal.now)) (c.is_called_anyhow.ensures c.if-is_called_anyhow.true c.args.s.now)
