use Rattle.ap_steps.proofs.RegisterMaps.{held-set}
use Rattle.ap_steps.proofs.registers.put.Goals as goal

pub returns-clause-held : goal.returns-clause-held
returns-clause-held c = held-set c.args.registers.now c.args.number c.args.place c.requires
