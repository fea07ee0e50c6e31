use Rattle.std.proofs.Common.{◌∷◌}
use Rattle.ap_steps.specs.Moves.{held}
use Rattle.ap_standing.specs.Machine.{places_from}
use Rattle.ap_control.specs.Choosing.{possible_places}
use Rattle.ap_control.proofs.Passed.{passes-then}
use Rattle.ap_control.proofs.choosing.chosen_asked.Goals as goal

pub returns-clause-some : goal.returns-clause-some
returns-clause-some c =
    let code = c.args.sound.now in
    let cs = c.args.cells.now.cells in
    let x = held c.args.x.now in
    let found = c.args.found.now.named in
    let one = c.in-Some.one in
    c.of.ensures code cs x c.args.arity (found.place ∷ places_from code found.behind) c.in-Some.ensures.passes
    (passes-then code cs x (places_from code one.possible.alternative.behind) (places_from code one.rest) (possible_places code c.possible_from-next.result) c.in-Some.ensures.rest c.possible_from-next.ensures.passes)
    c.possible_from-next.ensures.sure
