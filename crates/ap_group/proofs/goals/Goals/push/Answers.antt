use Rattle.std.proofs.Common.{rules, ◌≡◌, [], ◌∷◌, ◌++◌, length, refl, ap, ap₂, ◌∙◌}
use Rattle.ap_group.specs.declared.goals.Goal.{Goal}
use Rattle.ap_group.specs.Listed.{goals_of}
use Rattle.ap_group.proofs.Listed.{goals_of-push}
use Rattle.ap_group.proofs.goals.Goals.push.Goals as goal

pub returns-clause-ok : goal.returns-clause-ok
returns-clause-ok c =
    let a = c.self.inside in
    let g : Goal = record { predicate = c.args.predicate; first = c.len.result; count = length c.args.arguments.now } in
    let places : c.extend_from_slice.new.self.items ≡ a.places.items ++ c.args.arguments.now = search rules in
    let goals : c.push_reserved.new.self.items ≡ a.goals.items ++ g ∷ [] = search rules in
    let first : c.len.result ≡ length a.places.items = search rules in
    ap₂ goals_of places goals
    ∙ goals_of-push a.places.items c.args.arguments.now a.goals.items g c.self.invariant first refl
    ∙ ap (λ ps. ps ++ record { predicate = c.args.predicate; arguments = c.args.arguments.now } ∷ []) c.self.view_is
