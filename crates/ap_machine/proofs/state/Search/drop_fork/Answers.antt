use Rattle.std.proofs.Common.{ap, ◌∙◌}
use Rattle.ap_machine.specs.View.{paused_of}
use Rattle.ap_machine.proofs.Parting.{no-moment, no-fork, Sane-dropped, seen-dropped}
use Rattle.ap_machine.proofs.state.Search.drop_fork.Goals as goal

pub forget_fork-requires : goal.forget_fork-requires
forget_fork-requires c =
    let i = c.self.inside in
    record { newest = no-moment i.cells i.environments i.x.items i.y.items i.roots.items i.next i.spent i.budget c.args.self.now c.self.view_is c.requires.newest }

pub invariant_of-self : goal.invariant_of-self
invariant_of-self c =
    let i = c.self.inside in
    Sane-dropped i.cells i.environments i.x.items i.y.items i.roots.items i.next i.spent i.budget c.args.self.now c.self.view_is c.self.invariant c.forget_fork.new.self c.forget_fork.ensures.some c.forget_fork.ensures.none

pub returns-clause-some : goal.returns-clause-some
returns-clause-some c = λ g gs e.
    let i = c.self.inside in
    seen-dropped i.cells i.environments i.x.items i.y.items i.roots.items i.next i.spent i.budget c.args.self.now c.self.view_is c.self.invariant c.forget_fork.new.self c.forget_fork.ensures.some g gs e

pub returns-clause-none : goal.returns-clause-none
returns-clause-none c = λ e.
    let i = c.self.inside in
    ap (λ k. paused_of i.cells k i.x.items i.y.items i.roots.items i.next i.spent i.budget)
    (c.forget_fork.ensures.none (no-fork i.cells i.environments i.x.items i.y.items i.roots.items i.next i.spent i.budget c.args.self.now c.self.view_is e))
    ∙ c.self.view_is
