use Rattle.std.proofs.Common.{◌≡◌, ◌∷◌, ◌++◌, drop}
use Rattle.ap_codegen.specs.declared.steps.Step.TheVariants.{Allocate}
use Rattle.ap_codegen.specs.Framed.{leaving}
use Rattle.ap_codegen.proofs.temporary.framed.Given as goal

abbrev pub invariant-loop-step : goal.invariant-loop-step
invariant-loop-step l = l.out.items ++ leaving (drop l.step-index l.steps) ≡ Allocate l.vars ∷ leaving l.steps
