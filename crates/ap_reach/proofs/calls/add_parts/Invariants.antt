use Rattle.std.proofs.Common.{take}
use Rattle.std.specs.List.{All}
use Rattle.ap_term.specs.GoalView.{part_of}
use Rattle.ap_reach.specs.Reached.{Extends, IsPartNamed}
use Rattle.ap_reach.proofs.calls.add_parts.Given as goal

abbrev pub invariant-loop-part : goal.invariant-loop-part
invariant-loop-part l = Extends l.fn.calls l.calls × All (λ p. IsPartNamed l.program l.calls (part_of p)) (take l.part-index l.parts)
