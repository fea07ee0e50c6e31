use Rattle.std.proofs.Common.{◌≡◌, ◌+◌, IsTrue, drop, ap, ◌∙◌, subst, arith}
use Rattle.std.proofs.lemmas.Bool.{and_parts}
use Rattle.std.proofs.lemmas.List.{drop_all}
use Rattle.ap_term.specs.Tree.{more}
use Rattle.ap_term.specs.TermView.{tree_of, trees_of}
use Rattle.ap_term.specs.WellFormed.{callable, all_callable}
use Rattle.ap_term.proofs.TermLists.{trees_of-drop_more}
use Rattle.ap_patterns.specs.Given.{patterns, given_at_fork, given_in_turn}
use Rattle.ap_fixpoint.specs.Uncovered.{uncovered}
use Rattle.ap_fixpoint.proofs.OpenGoals.{at_fork-turn, in_turn-turn}
use Rattle.ap_fixpoint.proofs.open.are_open.Goals as goal

pub loop-goal-preserved : goal.loop-goal-preserved
loop-goal-preserved c =
    let t = patterns c.args.table.now in
    let g = tree_of c.goal-item.result in
    let gs = trees_of (drop (c.loop-goal.goal-index + 1) c.args.goals.now) in
    let turn : trees_of (drop c.loop-goal.goal-index c.args.goals.now) ≡ more g gs = trees_of-drop_more c.args.goals.now c.loop-goal.goal-index c.goal-item.result (omega arith) c.goal-item.is in
    let nothing = c.is_open.ensures c.if-not-is_open.false in
    record {
      at_fork = λ rest. c.loop-goal.invariant.at_fork (λ s. ap (λ z. uncovered t (given_at_fork s z)) turn ∙ at_fork-turn t g gs nothing rest s);
      in_turn = λ rest. c.loop-goal.invariant.in_turn (λ s. ap (λ z. uncovered t (given_in_turn t s z)) turn ∙ in_turn-turn t g gs nothing rest s);
      callable = (and_parts (callable g) (all_callable gs) (subst (λ z. IsTrue (all_callable z)) turn c.loop-goal.invariant.callable)).1;
    }

pub returns-clause-in_turn : goal.returns-clause-in_turn
returns-clause-in_turn c h =
    let t = patterns c.args.table.now in
    c.loop-goal.invariant.in_turn (λ s. ap (λ z. uncovered t (given_in_turn t s (trees_of z))) (drop_all c.loop-goal.goal-index c.args.goals.now c.loop-goal-test.false))
