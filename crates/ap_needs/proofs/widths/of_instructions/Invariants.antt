use Rattle.std.proofs.Common.{ℕ, ◌<◌, ◌≤◌}
use Rattle.std.specs.Prelude.{slice_index_or}
use Rattle.ap_instr.specs.declared.instruction.Instr.{Instr}
use Rattle.ap_needs.specs.Needs.{HasTargets}
use Rattle.ap_needs.proofs.widths.of_instructions.Given as goal

abbrev pub invariant-loop-place : goal.invariant-loop-place
invariant-loop-place l = (k : ℕ) (d : Instr) (xs ys : ℕ) → l.from ≤ k → k < l.place → l.most.x ≤ xs → l.most.y ≤ ys → HasTargets (slice_index_or l.instructions k d) xs ys
