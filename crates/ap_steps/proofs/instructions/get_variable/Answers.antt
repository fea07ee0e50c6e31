use Rattle.ap_steps.proofs.StepsTaken.{got_variable}
use Rattle.ap_steps.proofs.instructions.get_variable.Goals as goal

pub returns-clause-taken : goal.returns-clause-taken
returns-clause-taken c =
    λ cs. got_variable cs c.args.x.now c.write.new.x c.args.y.now c.write.new.y c.args.v c.args.a c.argument-place.result c.argument-place.ensures c.write.ensures.x c.write.ensures.y
