use Rattle.std.proofs.Common.{sym}
use Rattle.ap_group.proofs.Checks.{way-here}
use Rattle.ap_group.proofs.checking.plain_way.Goals as goal

pub returns-in-Some-leads_to : goal.returns-in-Some-leads_to
returns-in-Some-leads_to c = way-here c.args.code.now c.args.at c.in-Some.instr c.in-Some-leads_to.to (sym c.in-Some.ensures) (sym c.in-Some-leads_to.ensures) (c.comes_to_group.ensures c.if-comes_to_group.true)
