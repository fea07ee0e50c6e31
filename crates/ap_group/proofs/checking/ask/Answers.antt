use Rattle.std.proofs.Common.{sym, subst}
use Rattle.ap_group.specs.Turns.{ChecksTo}
use Rattle.ap_group.proofs.Checks.{ground-check, apart-check}
use Rattle.ap_group.proofs.checking.ask.Goals as goal

pub returns-in_ok-holds-in-CheckGround : goal.returns-in_ok-holds-in-CheckGround
returns-in_ok-holds-in-CheckGround c =
    let a = c.args in
    subst (λ i. ChecksTo i a.cells.now.cells a.x.now a.y.now c.outcome.result) (sym c.in-CheckGround.is)
    (ground-check a.cells.now.cells a.x.now a.y.now c.requires.holds_x c.requires.holds_y c.in-CheckGround.v c.in-CheckGround.otherwise
    c.in_ok-holds-in-CheckGround.holds c.outcome.result c.in_ok-holds-in-CheckGround.ensures c.outcome.ensures.holds c.outcome.ensures.fails)

pub returns-in_ok-holds-in-CheckIndep : goal.returns-in_ok-holds-in-CheckIndep
returns-in_ok-holds-in-CheckIndep c =
    let a = c.args in
    subst (λ i. ChecksTo i a.cells.now.cells a.x.now a.y.now c.outcome-in-CheckIndep.result) (sym c.in-CheckIndep.is)
    (apart-check a.cells.now.cells a.x.now a.y.now c.requires.holds_x c.requires.holds_y c.in-CheckIndep.v c.in-CheckIndep.w c.in-CheckIndep.otherwise
    c.in_ok-holds-in-CheckIndep.holds c.outcome-in-CheckIndep.result c.in_ok-holds-in-CheckIndep.ensures c.outcome-in-CheckIndep.ensures.holds c.outcome-in-CheckIndep.ensures.fails)
