use Rattle.std.proofs.Common.{refl, ap, ◌∙◌}
use Rattle.ap_machine.specs.View.{Paused}
use Rattle.ap_machine.proofs.Sanity.{Sane-keeps, points-same}
use Rattle.ap_machine.proofs.Ran.{stays-ran}
use Rattle.ap_machine.proofs.Solving.{kept-on-err, view-kept, turn-of-goal}
use Rattle.ap_machine.proofs.state.Search.solve_builtin.Goals as goal

pub invariant_of-self : goal.invariant_of-self
invariant_of-self c =
    Sane-keeps c.self.inside.cells c.solve_goal.new.cells c.self.inside.environments c.self.inside.x.items c.self.inside.y.items c.self.inside.roots.items c.solve_goal.ensures.keeps c.solve_goal.ensures.longer c.self.invariant

pub returns-in_err-holds-clause-kept : goal.returns-in_err-holds-clause-kept
returns-in_err-holds-clause-kept c =
    let i = c.self.inside in
    kept-on-err c.from_residual.result _
    (view-kept i.cells c.solve_goal.new.cells i.environments i.x.items i.y.items i.roots.items i.next i.spent i.budget c.args.self.now c.self.view_is c.self.invariant c.solve_goal.ensures.keeps c.in_err-holds.ensures.undone)

pub invariant_of-self-2 : goal.invariant_of-self-2
invariant_of-self-2 c =
    Sane-keeps c.self.inside.cells c.solve_goal.new.cells c.self.inside.environments c.self.inside.x.items c.self.inside.y.items c.self.inside.roots.items c.solve_goal.ensures.keeps c.solve_goal.ensures.longer c.self.invariant

pub returns-clause-turn : goal.returns-clause-turn
returns-clause-turn c =
    let i = c.self.inside in
    turn-of-goal i.cells c.solve_goal.new.cells i.environments i.x.items i.y.items i.roots.items i.next i.spent i.budget c.args.self.now c.self.view_is c.self.invariant c.solve_goal.ensures.keeps
    c.args.code.now c.args.at c.requires.here c.args.builtin c.requires.stands c.deref.result.now c.deref.ensures.value c.in_ok-holds.holds c.in_ok-holds.ensures.solved
    c.after_goal-self-inside.result (c.after_goal-self-inside.ensures c.args.at c.behind-to.ensures)

pub returns-in_err-holds-clause-points : goal.returns-in_err-holds-clause-points
returns-in_err-holds-clause-points c =
    let i = c.self.inside in
    points-same i.cells c.solve_goal.new.cells i.environments i.x.items i.y.items i.roots.items c.solve_goal.ensures.keeps c.self.invariant ∙ ap (λ (t : Paused). t.machine.points) c.self.view_is

pub returns-clause-points : goal.returns-clause-points
returns-clause-points c =
    let i = c.self.inside in
    points-same i.cells c.solve_goal.new.cells i.environments i.x.items i.y.items i.roots.items c.solve_goal.ensures.keeps c.self.invariant ∙ ap (λ (t : Paused). t.machine.points) c.self.view_is

pub returns-in_err-holds-clause-stays : goal.returns-in_err-holds-clause-stays
returns-in_err-holds-clause-stays c =
    let i = c.self.inside in
    stays-ran i.cells c.solve_goal.new.cells i.environments i.x.items i.y.items i.x.items i.y.items i.roots.items i.next i.next i.spent i.budget c.args.self.now c.self.view_is c.self.invariant c.solve_goal.ensures.keeps refl refl

pub returns-clause-stays : goal.returns-clause-stays
returns-clause-stays c =
    let i = c.self.inside in
    stays-ran i.cells c.solve_goal.new.cells i.environments i.x.items i.y.items i.x.items i.y.items i.roots.items i.next c.after_goal-self-inside.result i.spent i.budget c.args.self.now c.self.view_is c.self.invariant c.solve_goal.ensures.keeps
    refl refl
