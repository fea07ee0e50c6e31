use Rattle.std.proofs.Common.{subst}
use Rattle.ap_instr.specs.Steps.{steps_from}
use Rattle.ap_steps.specs.Moves.{held}
use Rattle.ap_steps.proofs.Steps.{Moves-stuck}
use Rattle.ap_control.specs.Runs.{Ran, RanOrStuck}
use Rattle.ap_control.proofs.Unifying.{ran-takes}
use Rattle.ap_control.proofs.taking.can_take.Goals as goal

pub returns-in-Some-clause-taken : goal.returns-in-Some-clause-taken
returns-in-Some-clause-taken c = λ b openly.
    let code = c.args.code.now in
    let n = c.run_to_transfer.new in
    let ran : Ran code c.args.at c.args.cells.now.cells c.args.x.now c.args.y.now c.in-Some.to n.cells.cells n.x n.y =
    subst (λ o. RanOrStuck code c.args.at c.args.cells.now.cells c.args.x.now c.args.y.now o n.cells.cells n.x n.y) c.in-Some.is c.in_ok-to.ensures.ran
    in
    ran-takes code c.args.at c.in-Some.to c.args.cells.now.cells n.cells.cells c.args.x.now c.args.y.now n.x n.y ran (c.leads_on.ensures.opens b) openly

pub returns-in-Some-clause-stuck : goal.returns-in-Some-clause-stuck
returns-in-Some-clause-stuck c = λ b.
    let code = c.args.code.now in
    let n = c.run_to_transfer.new in
    let ran : Ran code c.args.at c.args.cells.now.cells c.args.x.now c.args.y.now c.in-Some.to n.cells.cells n.x n.y =
    subst (λ o. RanOrStuck code c.args.at c.args.cells.now.cells c.args.x.now c.args.y.now o n.cells.cells n.x n.y) c.in-Some.is c.in_ok-to.ensures.ran
    in
    Moves-stuck c.args.cells.now.cells n.cells.cells (held c.args.x.now) (held c.args.y.now) (held n.x) (held n.y) (steps_from code c.args.at) (steps_from code c.in-Some.to) ran.moves
    (c.leads_on.ensures.shut b n.cells.cells (held n.x) (held n.y))
