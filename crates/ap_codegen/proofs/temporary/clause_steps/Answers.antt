use Rattle.std.proofs.Common.{◌≡◌, ◌∷◌, ◌⊎◌, ℕ, List, sym, subst}
use Rattle.ap_term.specs.Tree.{count_trees}
use Rattle.ap_term.specs.Goals.{Clause}
use Rattle.ap_instr.specs.Runs.{arguments}
use Rattle.ap_codegen.specs.declared.steps.Step.{Step as Emitted}
use Rattle.ap_codegen.specs.declared.steps.Step.TheVariants.{Allocate}
use Rattle.ap_codegen.specs.Emitted.{leads_of}
use Rattle.ap_codegen.specs.Framed.{leaving}
use Rattle.ap_codegen.specs.Grouped.{IsGroupedCode, clause_leads}
use Rattle.ap_codegen.specs.Said.{AreNumbered}
use Rattle.ap_codegen.specs.Paces.{PacesLeads, ArePacedLeads, inside}
use Rattle.ap_codegen.proofs.LocatedLeads.{written_ended, written_led, located_paced}
use Rattle.ap_codegen.proofs.temporary.clause_steps.Goals as goal

pub returns-clause-code : goal.returns-clause-code
returns-clause-code c =
    let k : Clause = c.args.clause.now in
    let es : List Emitted = c.as_slice.result.now in
    let own : es ≡ c.in_ok-steps.steps.items = c.as_slice.ensures.value in
    let vars : c.vars.result ≡ k.vars = c.vars.ensures.vars in
    let arity : ℕ = count_trees (arguments k.head) in
    let e : leads_of es ≡ clause_leads k = subst (λ fs. leads_of fs ≡ clause_leads k) (sym own) c.in_ok-steps.ensures.leads in
    c.in_ok-code.ensures.grouped k arity (written_ended k es e) (subst (λ n. PacesLeads 0 (leads_of es) (inside n arity)) (sym vars) (written_led k es c.in_ok-steps.ensures.kept e))
    (subst (λ fs. IsGroupedCode k (leads_of fs)) (sym own) c.in_ok-steps.ensures.code)

pub returns-clause-paced : goal.returns-clause-paced
returns-clause-paced c =
    let k : Clause = c.args.clause.now in
    let es : List Emitted = c.as_slice.result.now in
    let own : es ≡ c.in_ok-steps.steps.items = c.as_slice.ensures.value in
    let vars : c.vars.result ≡ k.vars = c.vars.ensures.vars in
    let arity : ℕ = count_trees (arguments k.head) in
    let e : leads_of es ≡ clause_leads k = subst (λ fs. leads_of fs ≡ clause_leads k) (sym own) c.in_ok-steps.ensures.leads in
    let numbered : AreNumbered 0 es = subst (AreNumbered 0) (sym own) c.in_ok-steps.ensures.numbered in
    let placed = c.in_ok-code.ensures.led arity (written_ended k es e) (subst (λ n. PacesLeads 0 (leads_of es) (inside n arity)) (sym vars) (written_led k es c.in_ok-steps.ensures.kept e)) numbered in
    located_paced k es c.in_ok-code.code.items c.in_ok-steps.ensures.kept e numbered
    (subst (λ n. ArePacedLeads arity c.in_ok-code.code.items ⊎ (c.in_ok-code.code.items ≡ Allocate n ∷ leaving es)) vars placed)
