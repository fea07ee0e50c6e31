-- Steps inside an environment.
use Rattle.std.specs.Prelude.{if◌then◌else◌, List, [], ◌∷◌}
use Rattle.ap_instr.specs.Step.{frame}
use Rattle.ap_codegen.specs.declared.steps.Step.{Step as Emitted}
use Rattle.ap_codegen.specs.declared.steps.Step.TheVariants.{Deallocate}
use Rattle.ap_codegen.specs.Emitted.{step_of, Lead}
use Rattle.ap_codegen.specs.Temporary.{ends}

-- with the environment given back before a step behind which nothing runs
abbrev pub leaving : List Emitted → List Emitted
leaving [] = []
leaving (e ∷ es) = if ends (step_of e) then Deallocate ∷ e ∷ leaving es else e ∷ leaving es

-- the same of steps with their labels, which stay as they are: what led to such a step leads to the one before it
abbrev pub left_leads : List Lead → List Lead
left_leads [] = []
left_leads (l ∷ ls) = if ends l.0 then (frame, 0) ∷ l ∷ left_leads ls else l ∷ left_leads ls
