use Rattle.std.proofs.Common.{ap}
use Rattle.ap_term.specs.GoalView.{part_of}
use Rattle.ap_codegen.proofs.WholeLeads.{call_written}
use Rattle.ap_codegen.proofs.bodies.part_steps.Goals as goal

pub returns-in_ok-ask-in-Call-clause-written : goal.returns-in_ok-ask-in-Call-clause-written
returns-in_ok-ask-in-Call-clause-written c =
    call_written c.ask.new.code.items c.new-code.result.items _ (part_of c.args.part.now) c.args.seen.now.items (ap part_of c.in-Call.is) c.new-code.ensures.items c.in_ok-ask-in-Call.ensures.code
