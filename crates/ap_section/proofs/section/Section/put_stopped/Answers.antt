use Rattle.std.proofs.Common.{rules, ◌∙◌, ap}
use Rattle.ap_frames.specs.Slots.{is_running, may_be_given_back}
use Rattle.ap_frames.specs.Rows.{stopped}
use Rattle.ap_tied.specs.SlotCalls.{stood}
use Rattle.ap_section.specs.declared.section.Section.{Section}
use Rattle.ap_section.specs.Views.{view_of}
use Rattle.ap_section.proofs.Levels.{held_now}
use Rattle.ap_section.proofs.Newest.{count-at, called, place-at, told-at, running-row, given-back-row, bare-stopped, held-stopped, ready-stopped}
use Rattle.ap_section.proofs.section.Section.put_stopped.Goals as goal

pub overflow_sub-newest : goal.overflow_sub-newest
overflow_sub-newest c = let h = count-at c.args.self.now c.requires.at in let e = c.len-newest.ensures in search rules

pub index_mut-requires : goal.index_mut-requires
index_mut-requires c = let h = count-at c.args.self.now c.requires.at in let e = c.len-newest.ensures in search rules

pub put_stopped-requires-clause-place : goal.put_stopped-requires-clause-place
put_stopped-requires-clause-place c = place-at c.args.self.now c.len-newest.result c.index_mut.result.now c.args.i c.len-newest.ensures c.requires.at c.index_mut.ensures.value c.requires.place

pub put_stopped-requires-clause-runs : goal.put_stopped-requires-clause-runs
put_stopped-requires-clause-runs c = told-at is_running is_running running-row c.args.self.now c.len-newest.result c.index_mut.result.now c.args.i c.len-newest.ensures c.requires.at c.index_mut.ensures.value c.requires.runs

pub put_stopped-requires-clause-first : goal.put_stopped-requires-clause-first
put_stopped-requires-clause-first c = λ h. told-at may_be_given_back may_be_given_back given-back-row c.args.self.now c.len-newest.result c.index_mut.result.now c.args.i c.len-newest.ensures c.requires.at c.index_mut.ensures.value (c.requires.first h)

pub returns-clause-stands : goal.returns-clause-stands
returns-clause-stands c = (called c.args.self.now c.len-newest.result c.index_mut.result.now c.put_stopped.new.self c.args.i (stopped Section c.args.asked c.args.cost) c.len-newest.ensures c.requires.at c.requires.place c.index_mut.ensures.value c.put_stopped.ensures).stands
    ∙ ap (λ e. stood c.args.i e (held_now (stopped Section c.args.asked c.args.cost)) (view_of c.args.self.now)) (bare-stopped c.args.asked c.args.cost)
    ∙ ap (λ h. stood c.args.i (stopped (Unit {0}) c.args.asked c.args.cost) h (view_of c.args.self.now)) (held-stopped c.args.asked c.args.cost)

pub returns-clause-at_frame : goal.returns-clause-at_frame
returns-clause-at_frame c = (called c.args.self.now c.len-newest.result c.index_mut.result.now c.put_stopped.new.self c.args.i (stopped Section c.args.asked c.args.cost) c.len-newest.ensures c.requires.at c.requires.place c.index_mut.ensures.value c.put_stopped.ensures).at_frame

pub returns-clause-ready : goal.returns-clause-ready
returns-clause-ready c = λ code. (called c.args.self.now c.len-newest.result c.index_mut.result.now c.put_stopped.new.self c.args.i (stopped Section c.args.asked c.args.cost) c.len-newest.ensures c.requires.at c.requires.place c.index_mut.ensures.value c.put_stopped.ensures).ready code (ready-stopped code c.args.asked c.args.cost)
