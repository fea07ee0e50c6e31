use Rattle.std.proofs.Common.{◌∷◌, ap, ◌∙◌}
use Rattle.ap_machine.specs.View.{Paused}
use Rattle.ap_machine.proofs.Sanity.{some-moment, Sane-renamed, points-renamed}
use Rattle.ap_machine.proofs.state.Search.set_place.Goals as goal

pub invariant_of-self : goal.invariant_of-self
invariant_of-self c =
    let i = c.self.inside in
    let m = some-moment i.cells i.environments.moments (c.requires.0, c.requires.1, ap (λ (s : Paused). s.machine.points) c.self.view_is ∙ c.requires.2) in
    Sane-renamed i.cells i.environments c.set_place.new.self i.x.items i.y.items i.roots.items m.0 m.1 m.2 c.self.invariant c.args.place c.in_ok-behind.behind (c.set_place.ensures.newest m.0 m.1 m.2)

pub returns-clause-ok : goal.returns-clause-ok
returns-clause-ok c = λ q qs e.
    let i = c.self.inside in
    points-renamed i.cells i.environments c.set_place.new.self i.x.items i.y.items i.roots.items i.next i.spent i.budget c.args.self.now c.self.view_is c.args.place c.in_ok-behind.behind c.set_place.ensures.newest q qs e
    ∙ ap (λ b. record c.args.self.now { machine = record c.args.self.now.machine { points = record q { place = c.args.place; behind = b } ∷ qs } }) c.in_ok-behind.ensures
