use Rattle.std.proofs.Common.{rules, ◌∙◌}
use Rattle.ap_section.proofs.Newest.{count-at}
use Rattle.ap_section.proofs.Redoes.{stays-at}
use Rattle.ap_section.proofs.section.Section.stays.Goals as goal

pub overflow_sub-newest : goal.overflow_sub-newest
overflow_sub-newest c = let h = count-at c.args.self.now c.requires in let e = c.len-newest.ensures in search rules

pub index-frame-requires : goal.index-frame-requires
index-frame-requires c = let h = count-at c.args.self.now c.requires in let e = c.len-newest.ensures in search rules

pub returns : goal.returns
returns c = c.stays_by.ensures ∙ stays-at c.args.self.now c.len-newest.result c.index-frame.result.now c.next_redo.result c.len-newest.ensures c.requires c.index-frame.ensures c.next_redo.ensures
