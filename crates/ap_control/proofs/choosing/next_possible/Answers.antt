use Rattle.std.proofs.Common.{◌≡◌, sym, ◌∙◌, subst}
use Rattle.ap_steps.specs.Moves.{held}
use Rattle.ap_standing.specs.Machine.{places_from}
use Rattle.ap_control.specs.Heads.{PassesOver}
use Rattle.ap_control.specs.Choosing.{possible_places}
use Rattle.ap_control.proofs.Passed.{passes-then}
use Rattle.ap_control.proofs.choosing.next_possible.Goals as goal

pub returns-clause-passes : goal.returns-clause-passes
returns-clause-passes c =
    let code = c.args.sound.now in
    let cs = c.args.cells.now.cells in
    let x = held c.args.x.now in
    let from = places_from code c.next_choice-from.result in
    let e : c.in-Some-choice_before.choice.now.named.behind ≡ c.args.behind = c.in-Some-choice_before.ensures.1 ∙ sym c.in-Some.is in
    passes-then code cs x (places_from code c.args.behind) from (possible_places code c.possible_from.result)
    (subst (λ b. PassesOver code cs x (places_from code b) from) e (c.next_choice-from.ensures cs x c.for_choice-known.ensures.0.1)) c.possible_from.ensures.passes

pub returns-in-Some-free_at-clause-sure : goal.returns-in-Some-free_at-clause-sure
returns-in-Some-free_at-clause-sure c = c.in-Some-free_at.ensures.sure c.args.arity c.args.cells.now.cells (held c.args.x.now)
