use Rattle.ap_steps.proofs.StepsTaken.{put_value_done}
use Rattle.ap_steps.proofs.instructions.put_value.Goals as goal

pub returns-clause-taken : goal.returns-clause-taken
returns-clause-taken c =
    λ cs. put_value_done cs c.args.x.now c.put.new.registers c.args.y.now c.args.v c.args.a c.register-place.result c.register-place.ensures c.put.ensures.held
