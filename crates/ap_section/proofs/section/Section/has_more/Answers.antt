use Rattle.std.proofs.Common.{rules, ◌≡◌, ◌<◌}
use Rattle.ap_section.specs.Lending.{count_in}
use Rattle.ap_section.proofs.Beyond.{next-frame, next-point, nothing-next, search-ready}
use Rattle.ap_section.proofs.section.Section.has_more.Goals as goal

pub returns-then-not-is_empty-clause-more : goal.returns-then-not-is_empty-clause-more
returns-then-not-is_empty-clause-more c = λ e code r at. let t = c.if-not-is_empty.true in let k = c.is_empty.ensures in
    let n : 0 < count_in c.args.self.now = search rules in next-frame code c.args.self.now n r

pub returns-else-not-is_empty-clause-none : goal.returns-else-not-is_empty-clause-none
returns-else-not-is_empty-clause-none c = λ e. let t = c.if-not-is_empty.false in let k = c.is_empty.ensures in
    let n : count_in c.args.self.now ≡ 0 = search rules in nothing-next c.args.self.now n (c.has_more.ensures.none e)

pub returns-else-not-is_empty-clause-more : goal.returns-else-not-is_empty-clause-more
returns-else-not-is_empty-clause-more c = λ e code r at. next-point code c.args.self.now at (c.has_more.ensures.more e code (search-ready code c.args.self.now r))
