use Rattle.std.proofs.Common.{◌∷◌, refl, subst}
use Rattle.ap_steps.specs.Moves.{held}
use Rattle.ap_standing.specs.Machine.{places_from}
use Rattle.ap_control.specs.Heads.{IsShut}
use Rattle.ap_control.specs.Choosing.{IsChance, left_places}
use Rattle.ap_control.proofs.Passed.{passes-one, passes-then}
use Rattle.ap_control.proofs.choosing.left_with.Goals as goal

pub returns-in-Never-clause-passes : goal.returns-in-Never-clause-passes
returns-in-Never-clause-passes c =
    let code = c.args.sound.now in
    let cs = c.args.cells.now.cells in
    let x = held c.args.x.now in
    let found = c.args.found.now.named in
    let behind = places_from code found.behind in
    let shut : IsShut code cs x found.place = subst (IsChance code cs x c.args.arity found.place) c.in-Never.is (c.chance_of.ensures code c.requires.found) in
    passes-then code cs x (found.place ∷ behind) behind (left_places code c.left_behind.result) (passes-one code cs x (found.place ∷ behind) behind found.place refl shut) c.left_behind.ensures.passes
