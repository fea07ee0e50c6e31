use Rattle.std.proofs.Common.{◌≡◌, ◌++◌}
use Rattle.ap_codegen.specs.Emitted.{steps_of}
use Rattle.ap_codegen.specs.Permanent.{see_built, build}
use Rattle.ap_codegen.specs.Waiting.{structure, made, see_makings, made_weight}
use Rattle.ap_codegen.proofs.permanent.make.Given as goal

abbrev pub invariant-loop-making : goal.invariant-loop-making
invariant-loop-making l =
    (steps_of l.code.items ++ made l.left.items l.seen.items ≡ steps_of l.fn.code.items ++ build (structure l.whole) l.whole.at l.fn.seen.items l.whole.spare l.whole.free)
    × (see_makings l.left.items l.seen.items ≡ see_built (structure l.whole) l.fn.seen.items)

abbrev pub decreases-loop-making : goal.decreases-loop-making
decreases-loop-making l = made_weight l.left.items
