use Rattle.std.proofs.Common.{◌≡◌, ◌+◌, ◌++◌, drop, map, ap, ◌∙◌}
use Rattle.ap_term.specs.Tree.{push_tree}
use Rattle.ap_term.specs.TermView.{tree_of}
use Rattle.ap_term.specs.GoalView.{part_of}
use Rattle.ap_term.specs.Goals.{calls}
use Rattle.ap_alike.proofs.Places.{goals-turn}
use Rattle.ap_alike.proofs.fitting.goals_of.Goals as goal

pub loop-part-preserved : goal.loop-part-preserved
loop-part-preserved c =
    let ps = c.args.parts.now in
    let i = c.loop-part.part-index in
    let g = tree_of c.in-Call.goal in
    let pushed : c.push.new.self ≡ push_tree c.loop-part.goals g = c.in_ok-push-in-Call.ensures ∙ ap (push_tree c.loop-part.goals) c.in_ok-copy_term-in-Call.ensures in
    ap (λ gs. calls gs ++ map part_of (drop (i + 1) ps)) pushed
    ∙ goals-turn c.loop-part.goals g ps i c.part-item.result c.loop-part-test.true c.part-item.is (ap part_of c.in-Call.is)
    ∙ c.loop-part.invariant
