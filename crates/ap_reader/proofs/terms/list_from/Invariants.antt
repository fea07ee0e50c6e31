use Rattle.std.proofs.Common.{◌≡◌, ◌≤◌, map, take, drop, vec_len}
use Rattle.ap_term.specs.TermView.{tree_of}
use Rattle.ap_reader.specs.Build.{tree_cells}
use Rattle.ap_reader.proofs.terms.list_from.Given as goal

abbrev pub invariant-loop-alloc : goal.invariant-loop-alloc
invariant-loop-alloc l = record {
  some : l.from ≤ vec_len l.terms;
  front : take l.from l.terms.items ≡ take l.from l.fn.terms.items;
  cells : tree_cells l.dot (map tree_of (drop l.from l.terms.items)) (tree_of l.list) ≡ tree_cells l.dot (map tree_of (drop l.from l.fn.terms.items)) (tree_of l.fn.tail);
}

abbrev pub decreases-loop-alloc : goal.decreases-loop-alloc
decreases-loop-alloc l = vec_len l.terms
