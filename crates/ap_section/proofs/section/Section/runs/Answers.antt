use Rattle.std.proofs.Common.{rules, ◌∙◌, ap}
use Rattle.std.specs.List.{list_any}
use Rattle.ap_frames.specs.Slots.{is_running}
use Rattle.ap_section.proofs.Newest.{count-at}
use Rattle.ap_section.proofs.Redoes.{running-at}
use Rattle.ap_section.proofs.section.Section.runs.Goals as goal

pub overflow_sub-newest : goal.overflow_sub-newest
overflow_sub-newest c = let h = count-at c.args.self.now c.requires in let e = c.len-newest.ensures in search rules

pub index-requires : goal.index-requires
index-requires c = let h = count-at c.args.self.now c.requires in let e = c.len-newest.ensures in search rules

pub returns : goal.returns
returns c = c.some_run.ensures ∙ ap (λ xs. list_any is_running xs) c.deref.ensures.value ∙ running-at c.args.self.now c.len-newest.result c.index.result.now c.len-newest.ensures c.requires c.index.ensures
