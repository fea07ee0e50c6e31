use Rattle.std.proofs.Common.{◌≡◌, ◌≤◌, IsTrue, drop}
use Rattle.ap_term.specs.Tree.{size, size_all}
use Rattle.ap_term.specs.TermView.{tree_of, trees_of}
use Rattle.ap_term.specs.WellFormed.{numbered, numbered_all}
use Rattle.ap_sharing.specs.VarSet.{union}
use Rattle.ap_absunify.specs.TermSets.{var_set, var_set_all}
use Rattle.ap_absunify.proofs.term_sets.+var_set.Given as goal

abbrev pub decreases-add_var_set : goal.decreases-add_var_set
decreases-add_var_set l = size (tree_of l.t.now)

abbrev pub decreases-add_var_sets : goal.decreases-add_var_sets
decreases-add_var_sets l = size_all (trees_of l.terms.now)

abbrev pub invariant-add_var_set-loop-at : goal.invariant-add_var_set-loop-at
invariant-add_var_set-loop-at l = record {
  whole : union l.found (var_set (tree_of l.at)) ≡ union l.initial.found (var_set (tree_of l.fn.t));
  numbers : IsTrue (numbered 255 (tree_of l.at));
  smaller : size (tree_of l.at) ≤ size (tree_of l.fn.t);
}

abbrev pub decreases-add_var_set-loop-at : goal.decreases-add_var_set-loop-at
decreases-add_var_set-loop-at l = size (tree_of l.at)

abbrev pub invariant-add_var_sets-loop-t : goal.invariant-add_var_sets-loop-t
invariant-add_var_sets-loop-t l = record {
  whole : union l.found (var_set_all (trees_of (drop l.t-index l.terms))) ≡ union l.initial.found (var_set_all (trees_of l.terms));
  numbers : IsTrue (numbered_all 255 (trees_of (drop l.t-index l.terms)));
}
