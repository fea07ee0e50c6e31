use Rattle.std.proofs.Common.{Some, ap, subst, sym, ◌∙◌}
use Rattle.ap_index.specs.Index.{tried_from, first_for}
use Rattle.ap_standing.specs.Machine.{places_from}
use Rattle.ap_control.specs.Heads.{PassesOver}
use Rattle.ap_control.proofs.Keys.{passes-others, tried-places}
use Rattle.ap_control.proofs.choosing.next_of_row.Goals as goal

pub returns-in-Some : goal.returns-in-Some
returns-in-Some c = λ cs x known.
    let code = c.args.sound.now in
    let key = c.args.own.key in
    let from = places_from code (Some c.args.at) in
    let first = first_for c.in-Some.row.now key in
    subst (PassesOver code cs x from) (tried-places code first ∙ ap (places_from code) (sym c.first.ensures)) (passes-others code cs x key known from (tried_from code first) (c.in-Some.ensures key))
