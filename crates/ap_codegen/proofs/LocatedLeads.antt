-- The steps of a clause, written as its code has them and brought to their places, keep the rules of code.
use Rattle.std.proofs.Common.{◌≡◌, List, ◌∷◌, ◌⊎◌, inl, inr, sym, subst}
use Rattle.ap_term.specs.Tree.{count_trees}
use Rattle.ap_term.specs.Goals.{Clause}
use Rattle.ap_term.specs.WellFormed.{IsClause}
use Rattle.ap_instr.specs.Runs.{arguments}
use Rattle.ap_codegen.specs.declared.steps.Step.{Step as Emitted}
use Rattle.ap_codegen.specs.declared.steps.Step.TheVariants.{Allocate}
use Rattle.ap_codegen.specs.Emitted.{leads_of}
use Rattle.ap_codegen.specs.Framed.{leaving}
use Rattle.ap_codegen.specs.Grouped.{IsEnded, clause_leads}
use Rattle.ap_codegen.specs.Said.{AreNumbered}
use Rattle.ap_codegen.specs.Paces.{PacesLeads, ArePacedLeads, inside}
use Rattle.ap_codegen.proofs.EndedLeads.{clause_ended}
use Rattle.ap_codegen.proofs.LeadPaces.{clause_led}
use Rattle.ap_codegen.proofs.LeadAlone.{framed_paced}

pub written_ended : (c : Clause) (es : List Emitted) → leads_of es ≡ clause_leads c → IsEnded (leads_of es)
written_ended c es e = subst IsEnded (sym e) (clause_ended c)

pub written_led : (c : Clause) (es : List Emitted) → IsClause c → leads_of es ≡ clause_leads c → PacesLeads 0 (leads_of es) (inside c.vars (count_trees (arguments c.head)))
written_led c es i e = subst (λ ls. PacesLeads 0 ls (inside c.vars (count_trees (arguments c.head)))) (sym e) (clause_led c i)

pub located_paced : (c : Clause) (es out : List Emitted) → IsClause c → leads_of es ≡ clause_leads c → AreNumbered 0 es → ArePacedLeads (count_trees (arguments c.head)) out ⊎ (out ≡ Allocate c.vars ∷ leaving es)
    → ArePacedLeads (count_trees (arguments c.head)) out
located_paced c es out i e n (inl p) = p
located_paced c es out i e n (inr d) = subst (ArePacedLeads (count_trees (arguments c.head))) (sym d) (framed_paced c es i e (written_ended c es e) n)
