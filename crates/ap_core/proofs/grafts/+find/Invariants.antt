use Rattle.std.proofs.Common.{◌≡◌, ◌≤◌, drop}
use Rattle.ap_term.specs.Tree.{size, size_all}
use Rattle.ap_term.specs.TermView.{tree_of, trees_of}
use Rattle.ap_core.specs.Fitting.{found, found_all}
use Rattle.ap_core.proofs.grafts.+find.Given as goal

abbrev pub decreases-find : goal.decreases-find
decreases-find l = size (tree_of l.p.now)

abbrev pub decreases-find_all : goal.decreases-find_all
decreases-find_all l = size_all (trees_of l.ps.now)

abbrev pub invariant-find-loop-pattern : goal.invariant-find-loop-pattern
invariant-find-loop-pattern l = record {
  whole : found l.x (tree_of l.pattern) (tree_of l.at) ≡ found l.x (tree_of l.fn.p) (tree_of l.fn.t);
  smaller : size (tree_of l.pattern) ≤ size (tree_of l.fn.p);
}

abbrev pub decreases-find-loop-pattern : goal.decreases-find-loop-pattern
decreases-find-loop-pattern l = size (tree_of l.pattern)

abbrev pub invariant-find_all-loop-i : goal.invariant-find_all-loop-i
invariant-find_all-loop-i l = found_all l.x (trees_of (drop l.i l.ps)) (trees_of (drop l.i l.ts)) ≡ found_all l.x (trees_of l.ps) (trees_of l.ts)
