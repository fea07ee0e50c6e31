use Rattle.std.proofs.Common.{◌≡◌, ◌≤◌, drop}
use Rattle.ap_term.specs.Tree.{size, size_all}
use Rattle.ap_term.specs.TermView.{tree_of, trees_of}
use Rattle.ap_term.specs.Vars.{occurs, occurs_all}
use Rattle.ap_spec.proofs.unification.+occurs.Given as goal

abbrev pub decreases-occurs : goal.decreases-occurs
decreases-occurs l = size (tree_of l.t.now)

abbrev pub decreases-occurs_among : goal.decreases-occurs_among
decreases-occurs_among l = size_all (trees_of l.terms.now)

abbrev pub invariant-occurs-loop-at : goal.invariant-occurs-loop-at
invariant-occurs-loop-at l = record {
  whole : occurs l.x (tree_of l.at) ≡ occurs l.x (tree_of l.fn.t);
  smaller : size (tree_of l.at) ≤ size (tree_of l.fn.t);
}

abbrev pub decreases-occurs-loop-at : goal.decreases-occurs-loop-at
decreases-occurs-loop-at l = size (tree_of l.at)

abbrev pub invariant-occurs_among-loop-t : goal.invariant-occurs_among-loop-t
invariant-occurs_among-loop-t l = occurs_all l.x (trees_of (drop l.t-index l.terms)) ≡ occurs_all l.x (trees_of l.terms)
