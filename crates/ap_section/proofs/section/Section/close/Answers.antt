use Rattle.std.proofs.Common.{rules}
use Rattle.ap_section.proofs.Closes.{count-first, closed-view, closed-ready}
use Rattle.ap_section.proofs.section.Section.close.Goals as goal

pub overflow_sub-newest : goal.overflow_sub-newest
overflow_sub-newest c = let h = count-first c.args.self.now c.requires in let e = c.len-newest.ensures in search rules

pub index_mut-requires : goal.index_mut-requires
index_mut-requires c = let h = count-first c.args.self.now c.requires in let e = c.len-newest.ensures in search rules

pub returns-clause-closed : goal.returns-clause-closed
returns-clause-closed c = closed-view c.args.self.now c.len-newest.result c.index_mut.result.now c.close.new.self c.len-newest.ensures c.requires c.index_mut.ensures.value c.close.ensures

pub returns-clause-ready : goal.returns-clause-ready
returns-clause-ready c = λ code. closed-ready code c.args.self.now c.len-newest.result c.index_mut.result.now c.close.new.self c.len-newest.ensures c.requires c.index_mut.ensures.value c.close.ensures
