use Rattle.std.proofs.Common.{rules, ◌∙◌, sym}
use Rattle.ap_section.proofs.Newest.{count-at}
use Rattle.ap_section.proofs.Redoes.{next-at, next-place}
use Rattle.ap_section.proofs.Taken.{taken-from, more-at, fits-taken, gone-on}
use Rattle.ap_section.proofs.section.Section.take_section.Goals as goal

pub overflow_sub-newest : goal.overflow_sub-newest
overflow_sub-newest c = let h = count-at c.args.self.now c.requires.at in let e = c.len-newest.ensures in search rules

pub index_mut-requires : goal.index_mut-requires
index_mut-requires c = let h = count-at c.args.self.now c.requires.at in let e = c.len-newest.ensures in search rules

pub take_section-section-requires-clause-place : goal.take_section-section-requires-clause-place
take_section-section-requires-clause-place c = next-place c.index_mut.result.now.slots.items c.args.i (sym (next-at c.args.self.now c.len-newest.result c.index_mut.result.now c.len-newest.ensures c.requires.at c.index_mut.ensures.value) ∙ c.requires.redo)

pub take_section-section-requires-clause-more : goal.take_section-section-requires-clause-more
take_section-section-requires-clause-more c = more-at c.args.self.now c.len-newest.result c.index_mut.result.now c.args.i c.len-newest.ensures c.requires.at c.index_mut.ensures.value c.requires.redo c.requires.there

pub leave_answer-requires : goal.leave_answer-requires
leave_answer-requires c = fits-taken c.args.self.now c.take_section-section.result c.args.i c.rest-rest.result
    (taken-from c.args.self.now c.take_section-section.result c.len-newest.result c.index_mut.result.now c.take_section-section.new.self c.args.i c.rest-rest.result c.len-newest.ensures c.requires.at c.index_mut.ensures.value c.requires.closed c.requires.redo c.rest-rest.ensures c.take_section-section.ensures.section c.take_section-section.ensures.runs).holds
    c.requires.fits c.rest-rest.ensures

pub returns-clause-taken : goal.returns-clause-taken
returns-clause-taken c = (taken-from c.args.self.now c.take_section-section.result c.len-newest.result c.index_mut.result.now c.take_section-section.new.self c.args.i c.rest-rest.result c.len-newest.ensures c.requires.at c.index_mut.ensures.value c.requires.closed c.requires.redo c.rest-rest.ensures c.take_section-section.ensures.section c.take_section-section.ensures.runs).view

pub returns-clause-section : goal.returns-clause-section
returns-clause-section c = gone-on c.args.self.now c.take_section-section.result c.leave_answer.new.self c.args.i c.rest-rest.result
    (taken-from c.args.self.now c.take_section-section.result c.len-newest.result c.index_mut.result.now c.take_section-section.new.self c.args.i c.rest-rest.result c.len-newest.ensures c.requires.at c.index_mut.ensures.value c.requires.closed c.requires.redo c.rest-rest.ensures c.take_section-section.ensures.section c.take_section-section.ensures.runs).holds
    c.rest-rest.ensures c.leave_answer.ensures.goes_on

pub returns-clause-at_frame : goal.returns-clause-at_frame
returns-clause-at_frame c = (taken-from c.args.self.now c.take_section-section.result c.len-newest.result c.index_mut.result.now c.take_section-section.new.self c.args.i c.rest-rest.result c.len-newest.ensures c.requires.at c.index_mut.ensures.value c.requires.closed c.requires.redo c.rest-rest.ensures c.take_section-section.ensures.section c.take_section-section.ensures.runs).at_frame

pub returns-clause-place : goal.returns-clause-place
returns-clause-place c = (taken-from c.args.self.now c.take_section-section.result c.len-newest.result c.index_mut.result.now c.take_section-section.new.self c.args.i c.rest-rest.result c.len-newest.ensures c.requires.at c.index_mut.ensures.value c.requires.closed c.requires.redo c.rest-rest.ensures c.take_section-section.ensures.section c.take_section-section.ensures.runs).place

pub returns-clause-runs : goal.returns-clause-runs
returns-clause-runs c = (taken-from c.args.self.now c.take_section-section.result c.len-newest.result c.index_mut.result.now c.take_section-section.new.self c.args.i c.rest-rest.result c.len-newest.ensures c.requires.at c.index_mut.ensures.value c.requires.closed c.requires.redo c.rest-rest.ensures c.take_section-section.ensures.section c.take_section-section.ensures.runs).runs

pub returns-clause-ready : goal.returns-clause-ready
returns-clause-ready c = λ code k.
    let r = (taken-from c.args.self.now c.take_section-section.result c.len-newest.result c.index_mut.result.now c.take_section-section.new.self c.args.i c.rest-rest.result c.len-newest.ensures c.requires.at c.index_mut.ensures.value c.requires.closed c.requires.redo c.rest-rest.ensures c.take_section-section.ensures.section c.take_section-section.ensures.runs).ready code k in
    (r.0, c.leave_answer.ensures.ready code r.1)
