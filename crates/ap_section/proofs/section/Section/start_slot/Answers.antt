use Rattle.std.proofs.Common.{rules, ◌∙◌, ap}
use Rattle.ap_frames.specs.Slots.{is_startable, is_running, may_be_given_back}
use Rattle.ap_frames.specs.declared.slots.Stand.TheVariants.{Running}
use Rattle.ap_frames.specs.declared.slots.Run.TheVariants.{First}
use Rattle.ap_section.proofs.Newest.{count-at, called, place-at, told-at, startable-row}
use Rattle.ap_section.proofs.Stood.{runs-stood, first-stood}
use Rattle.ap_tie.specs.Sections.{nothing}
use Rattle.ap_section.specs.Views.{view_of}
use Rattle.ap_section.specs.Slots.{told_of}
use Rattle.ap_section.proofs.section.Section.start_slot.Goals as goal

pub overflow_sub-newest : goal.overflow_sub-newest
overflow_sub-newest c = let h = count-at c.args.self.now c.requires.at in let e = c.len-newest.ensures in search rules

pub index_mut-requires : goal.index_mut-requires
index_mut-requires c = let h = count-at c.args.self.now c.requires.at in let e = c.len-newest.ensures in search rules

pub set_running-requires-clause-place : goal.set_running-requires-clause-place
set_running-requires-clause-place c = place-at c.args.self.now c.len-newest.result c.index_mut.result.now c.args.i c.len-newest.ensures c.requires.at c.index_mut.ensures.value c.requires.place

pub set_running-requires-clause-startable : goal.set_running-requires-clause-startable
set_running-requires-clause-startable c = told-at is_startable is_startable startable-row c.args.self.now c.len-newest.result c.index_mut.result.now c.args.i c.len-newest.ensures c.requires.at c.index_mut.ensures.value c.requires.startable

pub returns-clause-stands : goal.returns-clause-stands
returns-clause-stands c = (called c.args.self.now c.len-newest.result c.index_mut.result.now c.set_running.new.self c.args.i (Running First) c.len-newest.ensures c.requires.at c.requires.place c.index_mut.ensures.value c.set_running.ensures).stands

pub returns-clause-at_frame : goal.returns-clause-at_frame
returns-clause-at_frame c = (called c.args.self.now c.len-newest.result c.index_mut.result.now c.set_running.new.self c.args.i (Running First) c.len-newest.ensures c.requires.at c.requires.place c.index_mut.ensures.value c.set_running.ensures).at_frame

pub returns-clause-place : goal.returns-clause-place
returns-clause-place c = (called c.args.self.now c.len-newest.result c.index_mut.result.now c.set_running.new.self c.args.i (Running First) c.len-newest.ensures c.requires.at c.requires.place c.index_mut.ensures.value c.set_running.ensures).place

pub returns-clause-runs : goal.returns-clause-runs
returns-clause-runs c = let k = (called c.args.self.now c.len-newest.result c.index_mut.result.now c.set_running.new.self c.args.i (Running First) c.len-newest.ensures c.requires.at c.requires.place c.index_mut.ensures.value c.set_running.ensures) in
    ap (told_of is_running c.args.i) k.stands ∙ runs-stood First c.args.i nothing (view_of c.args.self.now) c.requires.place

pub returns-clause-first : goal.returns-clause-first
returns-clause-first c = let k = (called c.args.self.now c.len-newest.result c.index_mut.result.now c.set_running.new.self c.args.i (Running First) c.len-newest.ensures c.requires.at c.requires.place c.index_mut.ensures.value c.set_running.ensures) in
    ap (told_of may_be_given_back c.args.i) k.stands ∙ first-stood c.args.i nothing (view_of c.args.self.now) c.requires.place

pub returns-clause-ready : goal.returns-clause-ready
returns-clause-ready c = λ code. (called c.args.self.now c.len-newest.result c.index_mut.result.now c.set_running.new.self c.args.i (Running First) c.len-newest.ensures c.requires.at c.requires.place c.index_mut.ensures.value c.set_running.ensures).ready code tt
