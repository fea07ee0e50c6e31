use Rattle.std.proofs.Common.{◌≡◌, ◌+◌, ◌++◌, IsTrue, drop, ap, sym, ◌∙◌, subst, arith}
use Rattle.std.proofs.lemmas.Bool.{and_parts}
use Rattle.ap_term.specs.Tree.{more}
use Rattle.ap_term.specs.TermView.{tree_of, trees_of}
use Rattle.ap_term.specs.WellFormed.{callable, all_callable, numbered, numbered_all}
use Rattle.ap_term.proofs.TermLists.{trees_of-drop_more}
use Rattle.ap_patterns.specs.Given.{patterns, given_by_goal, given_in_turn, after_goal, after_goals}
use Rattle.ap_fixpoint.specs.Uncovered.{uncovered}
use Rattle.ap_fixpoint.proofs.Unreached.{uncovered-turn}
use Rattle.ap_fixpoint.proofs.bodies.add_in_turn.Goals as goal

pub loop-goal-preserved : goal.loop-goal-preserved
loop-goal-preserved c =
    let t = patterns c.args.table.now in
    let s = c.loop-goal.state in
    let g = tree_of c.goal-item.result in
    let gs = trees_of (drop (c.loop-goal.goal-index + 1) c.args.goals.now) in
    let old = c.loop-goal.given.items in
    let turn : trees_of (drop c.loop-goal.goal-index c.args.goals.now) ≡ more g gs = trees_of-drop_more c.args.goals.now c.loop-goal.goal-index c.goal-item.result (omega arith) c.goal-item.is in
    record {
      whole = ap (λ z. c.add_goal.new.given.items ++ uncovered t (given_in_turn t z gs)) c.in_ok-state.ensures
          ∙ uncovered-turn t old c.add_goal.new.given.items (given_by_goal s g) (given_in_turn t (after_goal t s g) gs) _ c.in_ok-add_goal.ensures
          (ap (λ z. old ++ uncovered t (given_in_turn t s z)) (sym turn) ∙ c.loop-goal.invariant.whole);
      after = ap (λ z. after_goals t z gs) c.in_ok-state.ensures ∙ ap (after_goals t s) (sym turn) ∙ c.loop-goal.invariant.after;
      callable = (and_parts (callable g) (all_callable gs) (subst (λ z. IsTrue (all_callable z)) turn c.loop-goal.invariant.callable)).1;
      numbers = (and_parts (numbered 255 g) (numbered_all 255 gs) (subst (λ z. IsTrue (numbered_all 255 z)) turn c.loop-goal.invariant.numbers)).1;
    }
