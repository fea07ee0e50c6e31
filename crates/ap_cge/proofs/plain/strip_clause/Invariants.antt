use Rattle.std.proofs.Common.{◌≡◌, take}
use Rattle.std.specs.List.{flat_map}
use Rattle.ap_term.specs.GoalView.{part_of}
use Rattle.ap_cge.specs.Stripped.{stripped_part}
use Rattle.ap_cge.proofs.plain.strip_clause.Given as goal

abbrev pub invariant-loop-part : goal.invariant-loop-part
invariant-loop-part l = l.body ≡ flat_map (λ p. stripped_part (part_of p)) (take l.part-index l.part-items)
