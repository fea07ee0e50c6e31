use Rattle.std.proofs.Common.{◌≡◌, ◌++◌, drop}
use Rattle.ap_term.specs.TermView.{trees_of}
use Rattle.ap_codegen.specs.Emitted.{steps_of}
use Rattle.ap_codegen.specs.Grouped.{in_turn}
use Rattle.ap_codegen.proofs.groups.in_turn.Given as goal

abbrev pub invariant-loop-t : goal.invariant-loop-t
invariant-loop-t l = steps_of l.code.items ++ in_turn (trees_of (drop l.t-index l.t-items)) l.seen.items ≡ in_turn l.calls l.fn.seen.items
