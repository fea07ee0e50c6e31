use Rattle.std.proofs.Common.{rules}
use Rattle.ap_section.proofs.Newest.{count-at}
use Rattle.ap_section.proofs.Goings.{answers-found}
use Rattle.ap_section.proofs.Lacking.{answers-none}
use Rattle.ap_section.proofs.section.Section.answers.Goals as goal

pub overflow_sub-newest : goal.overflow_sub-newest
overflow_sub-newest c = let h = count-at c.args.self.now c.requires.at in let e = c.len-newest.ensures in search rules

pub index-requires : goal.index-requires
index-requires c = let h = count-at c.args.self.now c.requires.at in let e = c.len-newest.ensures in search rules

pub returns : goal.returns
returns c = record {
  answers = answers-found _ c.args.self.now c.len-newest.result c.index.result.now c.deref.result.now c.answers_of.result c.len-newest.ensures c.requires.at c.index.ensures c.deref.ensures.value c.answers_of.ensures.answers;
  none = answers-none c.args.self.now c.len-newest.result c.index.result.now c.deref.result.now c.answers_of.result c.len-newest.ensures c.requires.at c.index.ensures c.deref.ensures.value c.answers_of.ensures.none;
}
