use Rattle.std.proofs.Common.{rules}
use Rattle.ap_frames.specs.Slots.{is_running}
use Rattle.std.proofs.Common.{Some}
use Rattle.ap_frames.specs.Rows.{answered}
use Rattle.ap_section.proofs.Newest.{count-at, called, place-at, told-at, running-row, held-ready}
use Rattle.ap_section.proofs.section.Section.put_answer.Goals as goal

pub overflow_sub-newest : goal.overflow_sub-newest
overflow_sub-newest c = let h = count-at c.args.self.now c.requires.at in let e = c.len-newest.ensures in search rules

pub index_mut-requires : goal.index_mut-requires
index_mut-requires c = let h = count-at c.args.self.now c.requires.at in let e = c.len-newest.ensures in search rules

pub put_answer-requires-clause-place : goal.put_answer-requires-clause-place
put_answer-requires-clause-place c = place-at c.args.self.now c.len-newest.result c.index_mut.result.now c.args.i c.len-newest.ensures c.requires.at c.index_mut.ensures.value c.requires.place

pub put_answer-requires-clause-runs : goal.put_answer-requires-clause-runs
put_answer-requires-clause-runs c = told-at is_running is_running running-row c.args.self.now c.len-newest.result c.index_mut.result.now c.args.i c.len-newest.ensures c.requires.at c.index_mut.ensures.value c.requires.runs

pub returns-clause-stands : goal.returns-clause-stands
returns-clause-stands c = (called c.args.self.now c.len-newest.result c.index_mut.result.now c.put_answer.new.self c.args.i (answered (Some c.args.section) c.args.cost c.args.more) c.len-newest.ensures c.requires.at c.requires.place c.index_mut.ensures.value c.put_answer.ensures).stands

pub returns-clause-at_frame : goal.returns-clause-at_frame
returns-clause-at_frame c = (called c.args.self.now c.len-newest.result c.index_mut.result.now c.put_answer.new.self c.args.i (answered (Some c.args.section) c.args.cost c.args.more) c.len-newest.ensures c.requires.at c.requires.place c.index_mut.ensures.value c.put_answer.ensures).at_frame

pub returns-clause-ready : goal.returns-clause-ready
returns-clause-ready c = λ code r k. (called c.args.self.now c.len-newest.result c.index_mut.result.now c.put_answer.new.self c.args.i (answered (Some c.args.section) c.args.cost c.args.more) c.len-newest.ensures c.requires.at c.requires.place c.index_mut.ensures.value c.put_answer.ensures).ready code (held-ready code c.args.section c.requires.closed k) r
