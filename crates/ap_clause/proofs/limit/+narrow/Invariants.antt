use Rattle.std.proofs.Common.{◌≡◌, ◌≤◌, drop}
use Rattle.ap_term.specs.Tree.{size, size_all}
use Rattle.ap_term.specs.TermView.{tree_of, trees_of}
use Rattle.ap_clause.specs.Limit.{is_narrow, are_narrow}
use Rattle.ap_clause.proofs.limit.+narrow.Given as goal

abbrev pub decreases-is_narrow : goal.decreases-is_narrow
decreases-is_narrow l = size (tree_of l.t.now)

abbrev pub decreases-are_narrow : goal.decreases-are_narrow
decreases-are_narrow l = size_all (trees_of l.terms.now)

abbrev pub invariant-is_narrow-loop-at : goal.invariant-is_narrow-loop-at
invariant-is_narrow-loop-at l = record {
  whole : is_narrow (tree_of l.at) ≡ is_narrow (tree_of l.fn.t);
  smaller : size (tree_of l.at) ≤ size (tree_of l.fn.t);
}

abbrev pub decreases-is_narrow-loop-at : goal.decreases-is_narrow-loop-at
decreases-is_narrow-loop-at l = size (tree_of l.at)

abbrev pub invariant-are_narrow-loop-t : goal.invariant-are_narrow-loop-t
invariant-are_narrow-loop-t l = are_narrow (trees_of (drop l.t-index l.terms)) ≡ are_narrow (trees_of l.terms)
