use Rattle.std.proofs.Common.{◌∷◌, ap, sym, ◌∙◌}
use Rattle.ap_instr.specs.Builtin.{relation_name}
use Rattle.ap_instr.specs.Step.{builtin}
use Rattle.ap_instr.specs.Steps.{steps_from}
use Rattle.ap_direct.proofs.Found.{asks_there}
use Rattle.ap_direct.proofs.finding.goal_on_registers.Goals as goal

pub returns-in-Some-goal_of : goal.returns-in-Some-goal_of
returns-in-Some-goal_of c =
    let code = c.args.code.now in
    let to = c.behind-to.result in
    asks_there code c.args.at (record { goal = c.in-Some-goal_of.goal; to = to; structures = 0 }) c.in-Some.relation
    (c.in-Some.ensures ∙ ap (λ n. builtin (relation_name c.in-Some.relation) 2 ∷ steps_from code n) (sym c.behind-to.ensures)) c.in-Some-goal_of.ensures
