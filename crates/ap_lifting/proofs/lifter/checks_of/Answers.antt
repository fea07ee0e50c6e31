use Rattle.std.proofs.Common.{arith}
use Rattle.std.proofs.lemmas.Grind.{common_steps}
use Rattle.ap_lifting.proofs.Kept.{checks_kept}
use Rattle.ap_lifting.proofs.lifter.checks_of.Goals as goal

pub returns-clause-numbered : goal.returns-clause-numbered
returns-clause-numbered c = λ n h. let k = checks_kept n c.args.conditions.now h in grind (arith, common_steps)
