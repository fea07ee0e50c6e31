use Rattle.std.proofs.Common.{◌≡◌, ◌≤◌, Some, drop}
use Rattle.ap_term.specs.Tree.{size, size_all}
use Rattle.ap_term.specs.TermView.{tree_of, trees_of}
use Rattle.ap_term.specs.Unification.{apart, apart_all, both}
use Rattle.ap_spec.proofs.unification.+apart.Given as goal

abbrev pub decreases-apart : goal.decreases-apart
decreases-apart l = size (tree_of l.t.now)

abbrev pub decreases-apart_all : goal.decreases-apart_all
decreases-apart_all l = size_all (trees_of l.ts.now)

abbrev pub invariant-apart-loop-left : goal.invariant-apart-loop-left
invariant-apart-loop-left l = record {
  whole : both (Some l.out) (apart (tree_of l.left) (tree_of l.right)) ≡ both (Some l.initial.out) (apart (tree_of l.fn.t) (tree_of l.fn.u));
  smaller : size (tree_of l.left) ≤ size (tree_of l.fn.t);
}

abbrev pub decreases-apart-loop-left : goal.decreases-apart-loop-left
decreases-apart-loop-left l = size (tree_of l.left)

abbrev pub invariant-apart_all-loop-i : goal.invariant-apart_all-loop-i
invariant-apart_all-loop-i l =
    both (Some l.out) (apart_all (trees_of (drop l.i l.ts)) (trees_of (drop l.i l.us))) ≡ both (Some l.initial.out) (apart_all (trees_of l.ts) (trees_of l.us))
