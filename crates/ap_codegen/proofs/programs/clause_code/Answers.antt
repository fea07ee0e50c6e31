use Rattle.std.proofs.Common.{List, subst}
use Rattle.ap_codegen.specs.declared.steps.Step.{Step as Emitted}
use Rattle.ap_codegen.specs.Said.{AreSaidAt}
use Rattle.ap_codegen.proofs.Instructions.{clause_instructions}
use Rattle.ap_codegen.proofs.LeadAlone.{leads_alone}
use Rattle.ap_codegen.proofs.LeadWalks.{lead_walks}
use Rattle.ap_codegen.proofs.programs.clause_code.Goals as goal

pub returns-clause-code : goal.returns-clause-code
returns-clause-code c code h =
    let es = c.in_ok-steps.steps.items in
    let is = c.in_ok-out.out.items in
    let said : AreSaidAt code c.args.start es is = subst (λ (fs : List Emitted). AreSaidAt code c.args.start fs is) c.as_slice.ensures.value (c.in_ok-out.ensures.said code h) in
    clause_instructions code c.args.start c.args.clause.now es is said c.in_ok-steps.ensures.code (λ later. lead_walks code _ c.args.start es is later c.in_ok-steps.ensures.paced said)
    (leads_alone code _ c.args.start es is c.in_ok-steps.ensures.paced said)
