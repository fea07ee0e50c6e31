use Rattle.std.specs.Box.{with_value}
use Rattle.ap_core.proofs.Throwing.{drained_made, drained_refused, drained_kept}
use Rattle.ap_core.proofs.slots.answer_drained.Goals as goal

pub returns-in-Ok-true : goal.returns-in-Ok-true
returns-in-Ok-true c =
    drained_made c.args.x c.in-Drained.earlier c.throw_answer-thrown.new.earlier c.in-Drained.standing c.in-Drained.task (with_value c.in-Drained.task c.throw_answer-thrown.new.task) c.deref_mut.result.now c.in-Drained.before c.in-Drained.cost c.in-Ok-true.field-0
    c.in-Drained.is c.deref_mut.ensures.value c.in-Ok-true.ensures c.in-Ok-true.field-0-test

pub returns-in-Ok-false : goal.returns-in-Ok-false
returns-in-Ok-false c =
    drained_refused c.args.x c.in-Drained.earlier c.throw_answer-thrown.new.earlier c.in-Drained.standing c.in-Drained.task (with_value c.in-Drained.task c.throw_answer-thrown.new.task) c.deref_mut.result.now c.in-Drained.before c.in-Drained.cost c.in-Ok-false.field-0
    c.in-Drained.is c.deref_mut.ensures.value c.in-Ok-false.ensures c.in-Ok-false.field-0-test

pub returns-in-Err : goal.returns-in-Err
returns-in-Err c =
    drained_kept c.args.x c.in-Drained.earlier c.throw_answer-thrown.new.earlier c.in-Drained.standing c.in-Drained.task (with_value c.in-Drained.task c.throw_answer-thrown.new.task) c.deref_mut.result.now c.in-Drained.before c.in-Drained.cost
    c.in-Drained.is c.deref_mut.ensures.value c.in-Err.ensures
