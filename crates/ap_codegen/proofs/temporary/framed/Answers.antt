use Rattle.std.proofs.Common.{arith}
use Rattle.ap_codegen.proofs.Framing.{leaving_turn, leaving_end}
use Rattle.ap_codegen.proofs.temporary.framed.Goals as goal

pub loop-step-preserved : goal.loop-step-preserved
loop-step-preserved c =
    leaving_turn c.args.steps.now c.loop-step.step-index c.step-item.result c.loop-step.out.items c.add_leaving.new.out.items _ (omega arith) c.step-item.is c.in_ok-add_leaving.ensures c.loop-step.invariant

pub returns : goal.returns
returns c = leaving_end c.loop-step.out.items _ c.args.steps.now c.loop-step.step-index (omega arith) c.loop-step.invariant
