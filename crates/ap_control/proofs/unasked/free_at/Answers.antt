use Rattle.std.proofs.Common.{subst, sym, ◌∙◌, ◌≤◌, length}
use Rattle.ap_control.specs.Taking.{CanTake}
use Rattle.ap_control.proofs.Fitting.{fit-empty, sure-having}
use Rattle.ap_control.proofs.unasked.free_at.Goals as goal

pub returns-clause-sure : goal.returns-clause-sure
returns-clause-sure c = λ n cs x e z alike.
    let code = c.args.sound.now in
    let choice = c.in-Some.choice.now in
    let none : length choice.head.asks.items ≤ 0 = subst (λ asks. length asks ≤ 0) c.asks.ensures c.if-asks-gt0.false in
    subst (CanTake code cs z) (sym c.alternative_of.ensures.place)
    (sure-having code cs x n choice.named.place choice.head c.in-Some.ensures.is.head (sym c.is_whole.ensures ∙ e) (fit-empty cs x n choice.head.asks.items none) z alike)
