use Rattle.std.proofs.Common.{◌≡◌, drop}
use Rattle.ap_term.specs.TermView.{trees_of}
use Rattle.ap_core.specs.Conditions.{are_apart, are_apart_from}
use Rattle.ap_core.proofs.conditions.are_apart.Given as goal

abbrev pub invariant-loop-t : goal.invariant-loop-t
invariant-loop-t l = are_apart_from l.seen.items (trees_of (drop l.t-index l.terms)) ≡ are_apart (trees_of l.terms)
