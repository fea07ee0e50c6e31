use Rattle.std.proofs.Common.{◌≡◌, ℕ, ◌<◌, slice_get, Some}
use Rattle.ap_instr.specs.declared.instruction.Instr.{Instr}
use Rattle.ap_needs.specs.Behind.{NamesOwn}
use Rattle.ap_needs.proofs.alone.stands_alone.Given as goal

abbrev pub invariant-loop-at : goal.invariant-loop-at
invariant-loop-at l = (k : ℕ) (i : Instr) → k < l.at → slice_get l.code.instructions k ≡ Some i → NamesOwn l.code k i
