use Rattle.std.proofs.Common.{ap, Ok}
use Rattle.ap_section.proofs.Forked.{room-came, same-came, past-came, last-came, last-due}
use Rattle.ap_section.proofs.Counted.{frames-room, past-group}
use Rattle.ap_section.proofs.section.Section.fork.Goals as goal

pub returns-in_err-reserve-clause-moved : goal.returns-in_err-reserve-clause-moved
returns-in_err-reserve-clause-moved c = (room-came c.reaching_law.ensures c.args.sound.now c.args.self.now c.reserve.new.self c.reserve.ensures.items c.requires.shut).moved

pub returns-in_err-reserve-clause-spent : goal.returns-in_err-reserve-clause-spent
returns-in_err-reserve-clause-spent c = (room-came c.reaching_law.ensures c.args.sound.now c.args.self.now c.reserve.new.self c.reserve.ensures.items c.requires.shut).spent

pub returns-in_err-reserve-clause-ready : goal.returns-in_err-reserve-clause-ready
returns-in_err-reserve-clause-ready c = (room-came c.reaching_law.ensures c.args.sound.now c.args.self.now c.reserve.new.self c.reserve.ensures.items c.requires.shut).ready

pub returns-in_err-forked-clause-moved : goal.returns-in_err-forked-clause-moved
returns-in_err-forked-clause-moved c = (same-came c.reaching_law.ensures c.args.sound.now c.args.self.now c.reserve.new.self c.reserve.ensures.items c.requires.shut c.fork.new.self c.in_err-forked.ensures.err).moved

pub returns-in_err-forked-clause-spent : goal.returns-in_err-forked-clause-spent
returns-in_err-forked-clause-spent c = (same-came c.reaching_law.ensures c.args.sound.now c.args.self.now c.reserve.new.self c.reserve.ensures.items c.requires.shut c.fork.new.self c.in_err-forked.ensures.err).spent

pub returns-in_err-forked-clause-ready : goal.returns-in_err-forked-clause-ready
returns-in_err-forked-clause-ready c = (same-came c.reaching_law.ensures c.args.sound.now c.args.self.now c.reserve.new.self c.reserve.ensures.items c.requires.shut c.fork.new.self c.in_err-forked.ensures.err).ready

pub returns-then-forked-clause-moved : goal.returns-then-forked-clause-moved
returns-then-forked-clause-moved c = (last-came c.reaching_law.ensures c.args.sound.now c.args.self.now c.reserve.new.self c.reserve.ensures.items c.requires.shut c.fork.new.self c.requires.here c.in_ok-forked.ensures.is_for
    c.push_reserved.new.self c.in_ok-frame.frame c.push_reserved.ensures.items c.in_ok-frame.ensures (c.in_ok-forked.ensures.forked (ap Ok c.if-forked.true))).moved

pub returns-then-forked-clause-spent : goal.returns-then-forked-clause-spent
returns-then-forked-clause-spent c = (last-came c.reaching_law.ensures c.args.sound.now c.args.self.now c.reserve.new.self c.reserve.ensures.items c.requires.shut c.fork.new.self c.requires.here c.in_ok-forked.ensures.is_for
    c.push_reserved.new.self c.in_ok-frame.frame c.push_reserved.ensures.items c.in_ok-frame.ensures (c.in_ok-forked.ensures.forked (ap Ok c.if-forked.true))).spent

pub returns-then-forked-clause-ready : goal.returns-then-forked-clause-ready
returns-then-forked-clause-ready c = (last-came c.reaching_law.ensures c.args.sound.now c.args.self.now c.reserve.new.self c.reserve.ensures.items c.requires.shut c.fork.new.self c.requires.here c.in_ok-forked.ensures.is_for
    c.push_reserved.new.self c.in_ok-frame.frame c.push_reserved.ensures.items c.in_ok-frame.ensures (c.in_ok-forked.ensures.forked (ap Ok c.if-forked.true))).ready

pub returns-then-forked-clause-forked : goal.returns-then-forked-clause-forked
returns-then-forked-clause-forked c = λ e. (last-due c.reaching_law.ensures c.args.sound.now c.args.self.now c.reserve.new.self c.reserve.ensures.items c.requires.shut c.fork.new.self c.requires.here c.in_ok-forked.ensures.is_for
    c.push_reserved.new.self c.in_ok-frame.frame c.push_reserved.ensures.items c.in_ok-frame.ensures (c.in_ok-forked.ensures.forked (ap Ok c.if-forked.true)))

pub returns-else-forked-clause-moved : goal.returns-else-forked-clause-moved
returns-else-forked-clause-moved c = (past-came c.reaching_law.ensures c.args.sound.now c.args.self.now c.reserve.new.self c.reserve.ensures.items c.requires.shut c.fork.new.self c.requires.here c.in_ok-forked.ensures.is_for (c.in_ok-forked.ensures.gone_on (ap Ok c.if-forked.false))).moved

pub returns-else-forked-clause-spent : goal.returns-else-forked-clause-spent
returns-else-forked-clause-spent c = (past-came c.reaching_law.ensures c.args.sound.now c.args.self.now c.reserve.new.self c.reserve.ensures.items c.requires.shut c.fork.new.self c.requires.here c.in_ok-forked.ensures.is_for (c.in_ok-forked.ensures.gone_on (ap Ok c.if-forked.false))).spent

pub returns-else-forked-clause-ready : goal.returns-else-forked-clause-ready
returns-else-forked-clause-ready c = (past-came c.reaching_law.ensures c.args.sound.now c.args.self.now c.reserve.new.self c.reserve.ensures.items c.requires.shut c.fork.new.self c.requires.here c.in_ok-forked.ensures.is_for (c.in_ok-forked.ensures.gone_on (ap Ok c.if-forked.false))).ready

pub returns-else-forked-clause-gone_on : goal.returns-else-forked-clause-gone_on
returns-else-forked-clause-gone_on c = λ e. past-group c.args.sound.now c.args.self.now c.reserve.new.self c.fork.new.self (c.in_ok-forked.ensures.gone_on (ap Ok c.if-forked.false))

pub returns-else-forked-clause-frames : goal.returns-else-forked-clause-frames
returns-else-forked-clause-frames c = λ e. frames-room c.args.self.now c.reserve.new.self c.fork.new.self c.reserve.ensures.items
