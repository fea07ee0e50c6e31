use Rattle.std.proofs.Common.{◌≡◌, ◌+◌, drop, ap, ◌∙◌, arith}
use Rattle.ap_term.specs.Tree.{more}
use Rattle.ap_term.specs.TermView.{tree_of, trees_of}
use Rattle.ap_term.proofs.TermLists.{trees_of-drop_more}
use Rattle.ap_patterns.specs.Given.{patterns, after_goal, after_goals}
use Rattle.ap_fixpoint.proofs.OpenGoals.{goals-stuck}
use Rattle.ap_fixpoint.proofs.open.any_stuck.Goals as goal

pub returns-then-is_stuck : goal.returns-then-is_stuck
returns-then-is_stuck c h =
    let t = patterns c.args.table.now in
    let g = tree_of c.goal-item.result in
    let gs = trees_of (drop (c.loop-goal.goal-index + 1) c.args.goals.now) in
    let turn : trees_of (drop c.loop-goal.goal-index c.args.goals.now) ≡ more g gs = trees_of-drop_more c.args.goals.now c.loop-goal.goal-index c.goal-item.result (omega arith) c.goal-item.is in
    c.loop-goal.invariant (λ s. ap (after_goals t s) turn ∙ goals-stuck t g gs (c.is_stuck.ensures c.if-is_stuck.true) s)

pub loop-goal-preserved : goal.loop-goal-preserved
loop-goal-preserved c rest =
    let t = patterns c.args.table.now in
    let g = tree_of c.goal-item.result in
    let gs = trees_of (drop (c.loop-goal.goal-index + 1) c.args.goals.now) in
    let turn : trees_of (drop c.loop-goal.goal-index c.args.goals.now) ≡ more g gs = trees_of-drop_more c.args.goals.now c.loop-goal.goal-index c.goal-item.result (omega arith) c.goal-item.is in
    c.loop-goal.invariant (λ s. ap (after_goals t s) turn ∙ rest (after_goal t s g))
