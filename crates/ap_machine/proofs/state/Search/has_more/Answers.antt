use Rattle.std.proofs.Common.{ap, sym, ◌∙◌, map}
use Rattle.ap_machine.specs.View.{Paused, point_of}
use Rattle.ap_machine.proofs.Resting.{roots-inside, answer-more}
use Rattle.ap_machine.proofs.state.Search.has_more.Goals as goal

pub returns-in-Some-clause-more : goal.returns-in-Some-clause-more
returns-in-Some-clause-more c = λ b code is at s ss h.
    let i = c.self.inside in
    let e = c.in-Some.ensures.some in
    answer-more code c.args.self.now.machine (roots-inside _ c.args.self.now c.self.view_is c.self.invariant.inside) at is.live (point_of i.cells e.0) (map (point_of i.cells) e.1)
    (ap (λ (t : Paused). t.machine.points) (sym c.self.view_is) ∙ ap (map (point_of i.cells)) e.2) s ss h
