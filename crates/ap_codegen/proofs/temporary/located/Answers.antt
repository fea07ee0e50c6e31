use Rattle.std.proofs.Common.{inl, inr, sym, subst}
use Rattle.ap_codegen.specs.Emitted.{leads_of}
use Rattle.ap_codegen.specs.Grouped.{IsGroupedCode}
use Rattle.ap_codegen.proofs.FramedLeads.{framed_grouped}
use Rattle.ap_codegen.proofs.temporary.located.Goals as goal

pub returns-in-Some-clause-grouped : goal.returns-in-Some-clause-grouped
returns-in-Some-clause-grouped c k arity h p g = let better = rw c.in-Some.is at c.in_ok-better.ensures.grouped in better k c.args.vars arity h p g

pub returns-in-Some-clause-led : goal.returns-in-Some-clause-led
returns-in-Some-clause-led c arity h p n = let better = rw c.in-Some.is at c.in_ok-better.ensures.led in inl (better c.args.vars arity h p n)

pub returns-clause-grouped : goal.returns-clause-grouped
returns-clause-grouped c k arity h p g = subst (λ es. IsGroupedCode k (leads_of es)) (sym c.in_ok-framed.ensures) (framed_grouped k c.args.steps.now c.args.vars g h)

pub returns-clause-led : goal.returns-clause-led
returns-clause-led c arity h p n = inr c.in_ok-framed.ensures
