use Rattle.std.proofs.Common.{sym, subst}
use Rattle.ap_steps.specs.Moves.{held}
use Rattle.ap_control.specs.Choosing.{AreFit, IsChance}
use Rattle.ap_control.proofs.Fitting.{chance-by}
use Rattle.ap_control.proofs.choosing.chance_by_all.Goals as goal

pub returns : goal.returns
returns c = λ code is.
    let cs = c.args.cells.now.cells in
    let x = held c.args.x.now in
    let choice = c.args.choice.now in
    let place = choice.named.place in
    subst (IsChance code cs x c.args.arity place) (sym c.chance_by.ensures)
    (chance-by code cs x c.args.arity place choice.head is.head c.fit_all.result (subst (λ asks. AreFit cs x c.args.arity asks c.fit_all.result) c.asks.ensures c.fit_all.ensures))
