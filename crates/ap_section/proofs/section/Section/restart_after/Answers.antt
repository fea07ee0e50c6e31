use Rattle.std.proofs.Common.{rules}
use Rattle.ap_section.proofs.Newest.{count-at, place-at}
use Rattle.ap_section.proofs.AtFork.{place-redone}
use Rattle.ap_section.proofs.Readied.{restarts}
use Rattle.ap_section.proofs.section.Section.restart_after.Goals as goal

pub overflow_sub-newest : goal.overflow_sub-newest
overflow_sub-newest c = let h = count-at c.args.self.now c.requires.at in let e = c.len-newest.ensures in search rules

pub index_mut-requires : goal.index_mut-requires
index_mut-requires c = let h = count-at c.args.self.now c.requires.at in let e = c.len-newest.ensures in search rules

pub restart_after-requires : goal.restart_after-requires
restart_after-requires c = record { place = place-at c.args.self.now c.len-newest.result c.index_mut.result.now c.args.i c.len-newest.ensures c.requires.at c.index_mut.ensures.value (place-redone c.args.i c.args.self.now c.requires.at c.requires.redone) }

pub returns-clause-stands : goal.returns-clause-stands
returns-clause-stands c = (restarts c.args.self.now c.len-newest.result c.index_mut.result.now c.restart_after.new.self c.args.i c.len-newest.ensures c.requires.at c.index_mut.ensures.value c.restart_after.ensures).stands

pub returns-clause-at_frame : goal.returns-clause-at_frame
returns-clause-at_frame c = (restarts c.args.self.now c.len-newest.result c.index_mut.result.now c.restart_after.new.self c.args.i c.len-newest.ensures c.requires.at c.index_mut.ensures.value c.restart_after.ensures).at_frame

pub returns-clause-ready : goal.returns-clause-ready
returns-clause-ready c = (restarts c.args.self.now c.len-newest.result c.index_mut.result.now c.restart_after.new.self c.args.i c.len-newest.ensures c.requires.at c.index_mut.ensures.value c.restart_after.ensures).ready
