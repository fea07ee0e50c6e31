use Rattle.ap_steps.specs.Moves.{held}
use Rattle.ap_control.proofs.choosing.First.of.Goals as goal

pub returns-then-arity-eq0 : goal.returns-then-arity-eq0
returns-then-arity-eq0 c = c.nothing.ensures c.args.cells.now.cells (held c.args.x.now) c.args.arity
