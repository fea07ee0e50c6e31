use Rattle.std.proofs.Common.{◌≡◌, ◌++◌, IsTrue, drop}
use Rattle.ap_term.specs.TermView.{trees_of}
use Rattle.ap_term.specs.WellFormed.{numbered_all}
use Rattle.ap_patterns.specs.Places.{argument_sets}
use Rattle.ap_patterns.proofs.places.argument_sets.Given as goal

abbrev pub invariant-loop-t : goal.invariant-loop-t
invariant-loop-t l = record {
  whole : l.sets.items ++ argument_sets (trees_of (drop l.t-index l.args)) ≡ argument_sets (trees_of l.args);
  numbers : IsTrue (numbered_all 255 (trees_of (drop l.t-index l.args)));
}
