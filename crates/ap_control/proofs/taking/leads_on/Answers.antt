use Rattle.std.proofs.Common.{sym, ◌∙◌}
use Rattle.ap_control.proofs.Unifying.{none-on, stuck-there, opens-there}
use Rattle.ap_control.proofs.taking.leads_on.Goals as goal

pub returns-in-Goal-clause-opens : goal.returns-in-Goal-clause-opens
returns-in-Goal-clause-opens c = λ b openly. opens-there c.args.code.now c.args.at c.in-Some.instr (sym c.instruction_at.ensures ∙ c.in-Some.is) c.requires c.in-Goal.ensures openly

pub returns-in-On-clause-shut : goal.returns-in-On-clause-shut
returns-in-On-clause-shut c = λ b cs x y k bs h. none-on c.args.code.now c.args.at c.in-Some.instr (sym c.instruction_at.ensures ∙ c.in-Some.is) c.requires c.in-On.ensures.0

pub returns-in-Other-clause-shut : goal.returns-in-Other-clause-shut
returns-in-Other-clause-shut c = λ b cs x y. stuck-there c.args.code.now c.args.at c.in-Some.instr (sym c.instruction_at.ensures ∙ c.in-Some.is) c.requires c.in-Other.ensures cs x y

pub returns-in-Structure-clause-shut : goal.returns-in-Structure-clause-shut
returns-in-Structure-clause-shut c = λ b cs x y k bs h. none-on c.args.code.now c.args.at c.in-Some.instr (sym c.instruction_at.ensures ∙ c.in-Some.is) c.requires c.in-Structure.ensures.0
