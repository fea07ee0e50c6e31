use Rattle.ap_steps.specs.Moves.{held}
use Rattle.ap_standing.specs.Machine.{places_from}
use Rattle.ap_control.specs.Choosing.{left_places}
use Rattle.ap_control.proofs.Passed.{passes-then}
use Rattle.ap_control.proofs.choosing.left_behind.Goals as goal

pub returns-clause-passes : goal.returns-clause-passes
returns-clause-passes c =
    let code = c.args.sound.now in
    let cs = c.args.cells.now.cells in
    let x = held c.args.x.now in
    let behind = places_from code c.args.found.now.named.behind in
    let from = places_from code c.next_choice-from.result in
    passes-then code cs x behind from (left_places code c.left_from.result) (c.next_choice-from.ensures cs x c.requires.known.0.1) c.left_from.ensures.passes
