use Rattle.std.proofs.Common.{◌-◌, arith}
use Rattle.ap_core.specs.TaskView.{last_of}
use Rattle.ap_core.proofs.ReplayedSlots.{answer_more}
use Rattle.ap_core.proofs.replays.stack_of_answers.Goals as goal

pub loop-left-preserved : goal.loop-left-preserved
loop-left-preserved c = record {
  within = omega (arith, c.loop-left.invariant.within);
  stacks = λ k. answer_more c.args.answers.now c.loop-left.left (c.loop-left.left - 1) c.index-answers-left.result c.in_ok-answer_state-2.field-0 (last_of c.args.last.now) c.loop-left.stack.items c.push-in-loop-left.new.self.items k
      (omega (arith, c.loop-left-test.true)) (omega (arith, c.loop-left-test.true, c.loop-left.invariant.within)) c.index-answers-left.is c.in_ok-answer_state-2.ensures c.in_ok-push-2.ensures.items (c.loop-left.invariant.stacks k);
}
