use Rattle.std.proofs.Common.{◌≡◌, true, false, drop}
use Rattle.ap_codegen.specs.Emitted.{steps_of}
use Rattle.ap_codegen.specs.Relocated.{all_open}
use Rattle.ap_codegen.proofs.relocating.all_open.Given as goal

abbrev pub invariant-loop-step : goal.invariant-loop-step
invariant-loop-step l = all_open l.asked (steps_of (drop l.step-index l.steps)) ≡ true → all_open false (steps_of l.steps) ≡ true
