use Rattle.std.proofs.Common.{subst}
use Rattle.ap_term.specs.TermView.{tree_of}
use Rattle.ap_codegen.specs.Grouped.{IsWritten, body_leads, clause_leads}
use Rattle.ap_codegen.proofs.WholeLeads.{whole_written, written_grouped}
use Rattle.ap_codegen.proofs.bodies.grouped_code.Goals as goal

written : (c : goal.After-drop-seen-2) → IsWritten c.append.new.self.items (clause_leads c.args.clause.now)
written c =
    whole_written c.args.clause.now c.new-code.result.items c.head-2.new.code.items c.in_ok-rest.rest.items c.append.new.self.items c.new-seen.result.items c.head-2.new.seen.items (tree_of c.head.result.now)
    c.new-code.ensures.items c.new-seen.ensures.items c.head.ensures.head c.in_ok-head.ensures.code c.in_ok-head.ensures.seen
    (subst (λ b. IsWritten c.in_ok-rest.rest.items (body_leads b c.head-2.new.seen.items)) c.body.ensures.body c.in_ok-rest.ensures) c.in_ok-append.ensures.items

pub returns-clause-leads : goal.returns-clause-leads
returns-clause-leads c = (written c).0

pub returns-clause-code : goal.returns-clause-code
returns-clause-code c = written_grouped c.args.clause.now c.append.new.self.items c.body.ensures.kept (written c)

pub returns-clause-numbered : goal.returns-clause-numbered
returns-clause-numbered c = (written c).1 0

pub returns-clause-kept : goal.returns-clause-kept
returns-clause-kept c = c.body.ensures.kept
