use Rattle.std.proofs.Common.{codes, arith}
use Rattle.std.proofs.lemmas.Grind.{common_steps}
use Rattle.ap_cge.specs.Printed.{goal_pieces}
use Rattle.ap_cge.proofs.Writing.{goals_from}
use Rattle.ap_cge.proofs.pieces.put_goals.Goals as goal

pub returns-in_ok-put_more_goals-in-len1-up : goal.returns-in_ok-put_more_goals-in-len1-up
returns-in_ok-put_more_goals-in-len1-up c =
    let e = goals_from (goal_pieces c.args.atoms.now) (codes " & ") c.args.goals.now c.first-item.result (omega arith) c.first-item.is in
    grind (arith, common_steps, e)
