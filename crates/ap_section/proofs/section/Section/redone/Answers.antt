use Rattle.std.proofs.Common.{rules, ◌∙◌, ap, sym}
use Rattle.ap_section.specs.Slots.{redone_of}
use Rattle.ap_section.proofs.Newest.{count-at, redone-at, not-redone}
use Rattle.ap_section.proofs.section.Section.redone.Goals as goal

pub overflow_sub-newest : goal.overflow_sub-newest
overflow_sub-newest c = let h = count-at c.args.self.now c.requires in let e = c.len-newest.ensures in search rules

pub index-requires : goal.index-requires
index-requires c = let h = count-at c.args.self.now c.requires in let e = c.len-newest.ensures in search rules

pub returns-in-Later : goal.returns-in-Later
returns-in-Later c = sym (redone-at c.args.self.now c.len-newest.result c.index.result.now c.len-newest.ensures c.requires c.index.ensures ∙ ap redone_of c.in-Later.is)

pub returns-in_default : goal.returns-in_default
returns-in_default c = sym (redone-at c.args.self.now c.len-newest.result c.index.result.now c.len-newest.ensures c.requires c.index.ensures ∙ not-redone c.index.result.now.round c.in_default.not-Later)
