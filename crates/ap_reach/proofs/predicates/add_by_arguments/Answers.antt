use Rattle.std.proofs.Common.{length, ◌≤◌, ◌⊎◌, sym, ◌∙◌, subst, arith}
use Rattle.ap_reach.specs.declared.called.TheConstants.{PLACES}
use Rattle.ap_term.specs.Tree.{node}
use Rattle.ap_term.specs.TermView.{tree_of, trees_of}
use Rattle.ap_term.proofs.TermLists.{count-trees_of}
use Rattle.ap_reach.specs.Index.{clauses_at}
use Rattle.ap_reach.proofs.Naming.{argument-trees_of, place_first, place_turn, near_end, min_met}
use Rattle.ap_reach.proofs.predicates.add_by_arguments.Goals as goal

pub loop-place-init : goal.loop-place-init
loop-place-init c = (omega arith, omega arith, λ k. place_first k (node c.args.name (trees_of c.args.args.now)) (clauses_at c.args.index.now k) c.args.clause.now)

pub loop-place-preserved : goal.loop-place-preserved
loop-place-preserved c = (
  c.loop-place.invariant.0,
  omega arith,
  λ k.
      place_turn k c.args.name _ c.loop-place.place (trees_of c.args.args.now) (tree_of c.index-args-place.result) (clauses_at c.args.index.now k) (clauses_at c.loop-place.index k) (clauses_at c.add_by_argument.new.index k) c.args.clause.now
      (c.loop-place.invariant.0 ∙ sym (count-trees_of c.args.args.now)) (argument-trees_of c.args.args.now c.loop-place.place c.index-args-place.result (omega arith) c.index-args-place.is) (c.loop-place.invariant.2 k) (c.in_ok-add_by_argument.ensures k),
)

pub returns : goal.returns
returns c k near =
    let most = c.loop-place.invariant.1 in
    let all : (length c.args.args.now ≤ c.loop-place.place) ⊎ (PLACES ≤ c.loop-place.place) = min_met (length c.args.args.now) c.loop-place.place (subst (λ m. m ≤ c.loop-place.place) c.min-place-end.ensures c.loop-place-test.false) in
    near_end k c.loop-place.place (length c.args.args.now) (node c.args.name (trees_of c.args.args.now)) (clauses_at c.args.index.now k) (clauses_at c.loop-place.index k) c.args.clause.now near most all (c.loop-place.invariant.2 k)
