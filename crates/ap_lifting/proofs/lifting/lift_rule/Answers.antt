use Rattle.std.proofs.Common.{slice_index}
use Rattle.ap_term.specs.TermView.{tree_of}
use Rattle.ap_lifting.specs.BodyView.{body_if}
use Rattle.ap_lifting.proofs.Kept.{rule_kept}
use Rattle.ap_lifting.proofs.lifting.lift_rule.Goals as goal

pub new-requires : goal.new-requires
new-requires c =
    let halves = c.into_parts-head in
    rule_kept (slice_index c.args.names.now) c.args.rule c.args.out.now.next (tree_of halves.result.0) c.in_ok-parts.parts c.vars.result c.line.result (body_if halves.result.1)
    halves.ensures.kept halves.ensures.head c.vars.ensures.vars c.line.ensures halves.ensures.body c.in_ok-parts.ensures.parts
