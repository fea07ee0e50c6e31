use Rattle.ap_machine.proofs.Resting.{roots-inside}
use Rattle.ap_machine.proofs.state.Search.roots_are_cells.Goals as goal

pub returns : goal.returns
returns c = roots-inside _ c.args.self.now c.self.view_is c.self.invariant.inside
