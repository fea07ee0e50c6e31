use Rattle.std.proofs.Common.{◌≡◌, map, take}
use Rattle.ap_codegen.specs.Relocated.{step_in}
use Rattle.ap_codegen.proofs.choosing.choose.Given as goal

abbrev pub invariant-loop-step : goal.invariant-loop-step
invariant-loop-step l = map step_in l.changes.items ≡ take l.step-index l.steps
