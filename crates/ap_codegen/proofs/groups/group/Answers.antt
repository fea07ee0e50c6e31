use Rattle.ap_codegen.proofs.PartLeads.{group_written}
use Rattle.ap_codegen.proofs.groups.group.Goals as goal

pub returns-clause-written : goal.returns-clause-written
returns-clause-written c =
    group_written c.args.tests.now c.args.calls.now c.args.seen.now.items c.make_checks.new.seen.items c.in_ok-code.code.items c.in_ok-goals.goals.items c.append.new.self.items c.in_ok-code.ensures.code c.in_ok-code.ensures.seen
    c.in_ok-goals.ensures.written c.in_ok-append.ensures.items
