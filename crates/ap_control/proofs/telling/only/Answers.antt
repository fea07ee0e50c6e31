use Rattle.std.proofs.Common.{Some}
use Rattle.ap_steps.specs.Moves.{held}
use Rattle.ap_control.proofs.Fitting.{has-key}
use Rattle.ap_control.proofs.telling.only.Goals as goal

pub returns-in-Some-own_of : goal.returns-in-Some-own_of
returns-in-Some-own_of c =
    let cs = c.args.cells.now.cells in
    let x = held c.args.x.now in
    c.told_by.ensures c.args.sound.now c.args.predicate.now c.in-Some.ensures (has-key cs x (Some c.in-Some-own_of.own) c.place_in.result c.place_in.ensures c.in-Some-own_of.ensures)
