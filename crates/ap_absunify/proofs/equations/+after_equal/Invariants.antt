use Rattle.std.proofs.Common.{◌≡◌, ◌≤◌, IsTrue, drop}
use Rattle.ap_term.specs.Tree.{size, size_all}
use Rattle.ap_term.specs.TermView.{tree_of, trees_of}
use Rattle.ap_term.specs.WellFormed.{numbered, numbered_all}
use Rattle.ap_absunify.specs.AfterEqual.{after_parts, parts, parts_all}
use Rattle.ap_absunify.proofs.equations.+after_equal.Given as goal

abbrev pub decreases-after_equal : goal.decreases-after_equal
decreases-after_equal l = size (tree_of l.t.now)

abbrev pub decreases-after_each_equal : goal.decreases-after_each_equal
decreases-after_each_equal l = size_all (trees_of l.ts.now)

abbrev pub invariant-after_equal-loop-left : goal.invariant-after_equal-loop-left
invariant-after_equal-loop-left l = record {
  whole : after_parts l.state (parts (tree_of l.left) (tree_of l.right)) ≡ after_parts l.initial.state (parts (tree_of l.fn.t) (tree_of l.fn.u));
  left_numbers : IsTrue (numbered 255 (tree_of l.left));
  right_numbers : IsTrue (numbered 255 (tree_of l.right));
  smaller : size (tree_of l.left) ≤ size (tree_of l.fn.t);
}

abbrev pub decreases-after_equal-loop-left : goal.decreases-after_equal-loop-left
decreases-after_equal-loop-left l = size (tree_of l.left)

abbrev pub invariant-after_each_equal-loop-i : goal.invariant-after_each_equal-loop-i
invariant-after_each_equal-loop-i l = record {
  whole : after_parts l.state (parts_all (trees_of (drop l.i l.ts)) (trees_of (drop l.i l.us))) ≡ after_parts l.initial.state (parts_all (trees_of l.ts) (trees_of l.us));
  left_numbers : IsTrue (numbered_all 255 (trees_of (drop l.i l.ts)));
  right_numbers : IsTrue (numbered_all 255 (trees_of (drop l.i l.us)));
}
