use Rattle.std.proofs.Common.{refl}
use Rattle.ap_worker.proofs.Leading.{helped-stays}
use Rattle.ap_worker.proofs.lead.Lead.help.Goals as goal

pub returns-then-help-clause-stays : goal.returns-then-help-clause-stays
returns-then-help-clause-stays g c = helped-stays c.args.self.now _ c.help.ensures.helps refl c.requires.leads

pub returns-else-help-clause-stays : goal.returns-else-help-clause-stays
returns-else-help-clause-stays g c = helped-stays c.args.self.now _ c.help.ensures.helps refl c.requires.leads
