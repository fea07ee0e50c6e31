use Rattle.std.proofs.Common.{◌≡◌, ◌≤◌, drop}
use Rattle.ap_term.specs.Tree.{size, size_all}
use Rattle.ap_term.specs.TermView.{tree_of, trees_of}
use Rattle.ap_term.specs.Identical.{identical, identical_all}
use Rattle.ap_spec.proofs.identity.+identical.Given as goal

abbrev pub decreases-identical : goal.decreases-identical
decreases-identical l = size (tree_of l.t.now)

abbrev pub decreases-identical_all : goal.decreases-identical_all
decreases-identical_all l = size_all (trees_of l.ts.now)

abbrev pub invariant-identical-loop-left : goal.invariant-identical-loop-left
invariant-identical-loop-left l = record {
  whole : identical (tree_of l.left) (tree_of l.right) ≡ identical (tree_of l.fn.t) (tree_of l.fn.u);
  smaller : size (tree_of l.left) ≤ size (tree_of l.fn.t);
}

abbrev pub decreases-identical-loop-left : goal.decreases-identical-loop-left
decreases-identical-loop-left l = size (tree_of l.left)

abbrev pub invariant-identical_all-loop-i : goal.invariant-identical_all-loop-i
invariant-identical_all-loop-i l = identical_all (trees_of (drop l.i l.ts)) (trees_of (drop l.i l.us)) ≡ identical_all (trees_of l.ts) (trees_of l.us)
