use Rattle.std.proofs.Common.{◌≡◌}
use Rattle.ap_instr.specs.Steps.{steps_from}
use Rattle.ap_machine.specs.Ahead.{goals_ahead}
use Rattle.ap_machine.proofs.group.goals_from.Given as goal

abbrev pub invariant-loop-place : goal.invariant-loop-place
invariant-loop-place l = record { same : goals_ahead (steps_from l.code l.at) ≡ goals_ahead (steps_from l.code l.place) }
