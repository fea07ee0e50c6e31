use Rattle.std.proofs.Common.{sym, ◌∙◌}
use Rattle.ap_engine_tests.proofs.sections.begun.Goals as goal

pub start_pooled-requires : goal.start_pooled-requires
start_pooled-requires c =
    let k = c.goal-predicate.ensures.known c.args.sound.now c.requires.ready in
    let p = c.in_ok-tuple.ensures in
    (k.0, k.1, sym (k.2 p.0 p.1) ∙ sym p.3)

pub returns-clause-next : goal.returns-clause-next
returns-clause-next c = (c.start_slot.ensures.at_frame, c.start_slot.ensures.place, c.start_slot.ensures.runs, c.in_ok-inner.ensures.ready)

pub returns-clause-ready : goal.returns-clause-ready
returns-clause-ready c = c.start_slot.ensures.ready c.args.sound.now c.requires.ready
