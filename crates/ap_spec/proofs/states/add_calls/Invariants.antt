use Rattle.std.proofs.Common.{◌≡◌, ◌++◌, map, take}
use Rattle.ap_term.specs.TermView.{trees_of}
use Rattle.ap_term.specs.Goals.{instance_part, calls}
use Rattle.ap_spec.proofs.states.add_calls.Given as goal

abbrev pub invariant-loop-t : goal.invariant-loop-t
invariant-loop-t g l = l.out ≡ l.initial.out ++ map (instance_part (g.B.Bindings.term_at l.bindings)) (calls (trees_of (take l.t-index l.terms)))
