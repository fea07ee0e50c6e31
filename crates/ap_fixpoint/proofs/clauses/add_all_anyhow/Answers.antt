use Rattle.std.proofs.Common.{◌≡◌, ◌+◌, ◌++◌, IsTrue, drop, ap, sym, ◌∙◌, subst, arith}
use Rattle.std.proofs.lemmas.Bool.{and_parts}
use Rattle.ap_term.specs.Tree.{more}
use Rattle.ap_term.specs.TermView.{tree_of, trees_of}
use Rattle.ap_term.specs.WellFormed.{callable, all_callable}
use Rattle.ap_term.proofs.TermLists.{trees_of-drop_more}
use Rattle.ap_patterns.specs.Given.{patterns, given_anyhow, given_by_all}
use Rattle.ap_fixpoint.specs.Uncovered.{uncovered}
use Rattle.ap_fixpoint.proofs.Unreached.{uncovered-turn}
use Rattle.ap_fixpoint.proofs.clauses.add_all_anyhow.Goals as goal

pub loop-goal-preserved : goal.loop-goal-preserved
loop-goal-preserved c =
    let t = patterns c.args.table.now in
    let s = c.args.called.now in
    let g = tree_of c.goal-item.result in
    let gs = trees_of (drop (c.loop-goal.goal-index + 1) c.args.goals.now) in
    let turn : trees_of (drop c.loop-goal.goal-index c.args.goals.now) ≡ more g gs = trees_of-drop_more c.args.goals.now c.loop-goal.goal-index c.goal-item.result (omega arith) c.goal-item.is in
    record {
      whole = uncovered-turn t c.loop-goal.given.items c.add_anyhow.new.given.items (given_anyhow s g) (given_by_all s gs) _ c.in_ok-add_anyhow.ensures
          (ap (λ z. c.loop-goal.given.items ++ uncovered t (given_by_all s z)) (sym turn) ∙ c.loop-goal.invariant.whole);
      callable = (and_parts (callable g) (all_callable gs) (subst (λ z. IsTrue (all_callable z)) turn c.loop-goal.invariant.callable)).1;
    }
