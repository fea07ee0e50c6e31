use Rattle.std.proofs.Common.{◌≡◌, map, ap, ◌∙◌, subst}
use Rattle.ap_codegen.specs.Relocated.{step_in, AreTested}
use Rattle.ap_codegen.proofs.RelocatedCode.{entered_grouped, entered_paced}
use Rattle.ap_codegen.proofs.temporary.relocated.Goals as goal

pub returns-clause-grouped : goal.returns-clause-grouped
returns-clause-grouped c k vars arity h p g =
    let own : map step_in c.as_slice.result.now ≡ c.args.steps.now = ap (map step_in) c.as_slice.ensures.value ∙ c.in_ok-chosen.ensures in
    let better = rw c.in-Some.is at c.in_ok-tested.ensures in
    entered_grouped c.in_ok-chosen.chosen.room c.args.steps.now c.in-Some.better.items c.in_ok-entered-in-Some.field-0.items k vars arity c.in_ok-entered-in-Some.ensures
    (subst (λ es. AreTested c.in_ok-chosen.chosen.room es c.in-Some.better.items) own better) h p g

pub returns-clause-led : goal.returns-clause-led
returns-clause-led c vars arity h p n =
    let own : map step_in c.as_slice.result.now ≡ c.args.steps.now = ap (map step_in) c.as_slice.ensures.value ∙ c.in_ok-chosen.ensures in
    let better = rw c.in-Some.is at c.in_ok-tested.ensures in
    entered_paced c.in_ok-chosen.chosen.room c.args.steps.now c.in-Some.better.items c.in_ok-entered-in-Some.field-0.items vars arity c.in_ok-entered-in-Some.ensures
    (subst (λ es. AreTested c.in_ok-chosen.chosen.room es c.in-Some.better.items) own better) h p n
