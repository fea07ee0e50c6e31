use Rattle.ap_steps.proofs.StepsTaken.{put_variable_done}
use Rattle.ap_steps.proofs.instructions.put_variable.Goals as goal

pub returns-clause-taken : goal.returns-clause-taken
returns-clause-taken c =
    λ hx hy.
    put_variable_done c.args.cells.now.cells c.push_variable-place.new.cells.cells c.args.x.now c.write.new.x c.put.new.registers c.args.y.now c.write.new.y hx hy c.args.v c.args.a c.push_variable-place.result c.push_variable-place.ensures.place
    c.push_variable-place.ensures.becomes c.push_variable-place.ensures.fits c.write.ensures.x c.put.ensures.held c.write.ensures.y
