use Rattle.std.proofs.Common.{sym, subst, ◌∙◌}
use Rattle.ap_grouping.specs.Groups.{AreGroups}
use Rattle.ap_grouping.proofs.Lone.{lone-groups}
use Rattle.ap_grouping.proofs.grouping.group_query.Goals as goal

pub returns-then-are_lone : goal.returns-then-are_lone
returns-then-are_lone c =
    let k = c.args.kind in
    let p = c.args.program in
    let q = c.args.query.now in
    subst (AreGroups k p q p) (sym c.in_ok-copy_query.ensures) (lone-groups k p q (sym c.are_lone.ensures ∙ c.if-are_lone.true) c.as_slice-good.ensures.kept c.question-kept.ensures.kept)
