use Rattle.ap_steps.proofs.Finding.{variable-matched}
use Rattle.ap_steps.proofs.found.match_variable.Goals as goal

pub returns-clause-matched : goal.returns-clause-matched
returns-clause-matched c = variable-matched c.args.cells.now.cells c.args.x.now c.write.new.x c.args.y.now c.write.new.y c.args.v c.args.place c.write.ensures.x c.write.ensures.y
