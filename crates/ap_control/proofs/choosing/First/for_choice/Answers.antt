use Rattle.ap_steps.specs.Moves.{held}
use Rattle.ap_control.proofs.choosing.First.for_choice.Goals as goal

pub returns-else-choice : goal.returns-else-choice
returns-else-choice c = c.nothing.ensures c.args.cells.now.cells (held c.args.x.now) c.args.arity
