use Rattle.ap_instr.specs.Steps.{steps_from}
use Rattle.ap_group.specs.Gathers.{ComesToGroup}
use Rattle.ap_group.proofs.checking.comes_to_group.Given as goal

abbrev pub invariant-loop-place : goal.invariant-loop-place
invariant-loop-place l = record { comes : ComesToGroup (steps_from l.code l.place) → ComesToGroup (steps_from l.code l.from) }
