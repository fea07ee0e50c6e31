use Rattle.std.proofs.Common.{subst}
use Rattle.ap_section.specs.Views.{view_of}
use Rattle.ap_section.specs.Settles.{IsSettled}
use Rattle.ap_engine_tests.proofs.Driven.{redoes}
use Rattle.ap_engine_tests.proofs.sections.settled.Goals as goal

pub take_section-inner-requires-clause-at : goal.take_section-inner-requires-clause-at
take_section-inner-requires-clause-at c = (redoes (view_of c.args.section.now) (view_of c.settle.new.self) c.in-Redo.i c.requires.at (subst (IsSettled (view_of c.args.section.now) (view_of c.settle.new.self)) c.in-Redo.is c.in_ok-settled.ensures.settled)).at

pub take_section-inner-requires-clause-closed : goal.take_section-inner-requires-clause-closed
take_section-inner-requires-clause-closed c = (redoes (view_of c.args.section.now) (view_of c.settle.new.self) c.in-Redo.i c.requires.at (subst (IsSettled (view_of c.args.section.now) (view_of c.settle.new.self)) c.in-Redo.is c.in_ok-settled.ensures.settled)).closed

pub take_section-inner-requires-clause-redo : goal.take_section-inner-requires-clause-redo
take_section-inner-requires-clause-redo c = (redoes (view_of c.args.section.now) (view_of c.settle.new.self) c.in-Redo.i c.requires.at (subst (IsSettled (view_of c.args.section.now) (view_of c.settle.new.self)) c.in-Redo.is c.in_ok-settled.ensures.settled)).redo

pub take_section-inner-requires-clause-there : goal.take_section-inner-requires-clause-there
take_section-inner-requires-clause-there c = (redoes (view_of c.args.section.now) (view_of c.settle.new.self) c.in-Redo.i c.requires.at (subst (IsSettled (view_of c.args.section.now) (view_of c.settle.new.self)) c.in-Redo.is c.in_ok-settled.ensures.settled)).there

pub take_section-inner-requires-clause-fits : goal.take_section-inner-requires-clause-fits
take_section-inner-requires-clause-fits c = (redoes (view_of c.args.section.now) (view_of c.settle.new.self) c.in-Redo.i c.requires.at (subst (IsSettled (view_of c.args.section.now) (view_of c.settle.new.self)) c.in-Redo.is c.in_ok-settled.ensures.settled)).fits

pub returns-in-Redo-clause-next : goal.returns-in-Redo-clause-next
returns-in-Redo-clause-next c = (c.take_section-inner.ensures.at_frame, c.take_section-inner.ensures.place, c.take_section-inner.ensures.runs, (c.take_section-inner.ensures.ready c.args.sound.now (c.settle.ensures.ready c.args.sound.now c.requires.ready)).1)

pub returns-in-Redo-clause-ready : goal.returns-in-Redo-clause-ready
returns-in-Redo-clause-ready c = (c.take_section-inner.ensures.ready c.args.sound.now (c.settle.ensures.ready c.args.sound.now c.requires.ready)).0

pub returns-in_err-settled-clause-ready : goal.returns-in_err-settled-clause-ready
returns-in_err-settled-clause-ready c = c.settle.ensures.ready c.args.sound.now c.requires.ready

pub returns-in-Spent-clause-ready : goal.returns-in-Spent-clause-ready
returns-in-Spent-clause-ready c = c.settle.ensures.ready c.args.sound.now c.requires.ready

pub returns-in-Joined-clause-ready : goal.returns-in-Joined-clause-ready
returns-in-Joined-clause-ready c = c.drop_sections.ensures.ready c.args.sound.now (c.settle.ensures.ready c.args.sound.now c.requires.ready)

pub returns-in-Open-clause-ready : goal.returns-in-Open-clause-ready
returns-in-Open-clause-ready c = c.settle.ensures.ready c.args.sound.now c.requires.ready
