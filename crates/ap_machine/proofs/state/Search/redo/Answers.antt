use Rattle.std.proofs.Common.{ap, refl, sym, subst}
use Rattle.ap_standing.specs.Machine.{failed}
use Rattle.ap_standing.specs.Holds.{Holds}
use Rattle.ap_machine.specs.View.{Paused, paused_of}
use Rattle.ap_machine.proofs.Living.{live-failed}
use Rattle.ap_machine.proofs.Progress.{for-same}
use Rattle.ap_machine.proofs.Resting.{roots-inside, answer-left}
use Rattle.ap_machine.proofs.state.Search.redo.Goals as goal

pub returns-clause-is_for : goal.returns-clause-is_for
returns-clause-is_for c = λ code h.
    let i = c.self.inside in
    let s : Paused = paused_of i.cells i.environments i.x.items i.y.items i.roots.items i.next i.spent i.budget in
    let t : Paused = record s { machine = record s.machine { now = failed } } in
    for-same code s t c.args.self.now c.self.view_is refl refl (live-failed code s.machine t.machine refl refl) refl h

pub returns-clause-left : goal.returns-clause-left
returns-clause-left c = λ at code s ss h.
    let m = c.args.self.now.machine in
    subst (λ k. Holds code k ss) (sym (ap (λ (t : Paused). record t.machine { now = failed }) c.self.view_is))
    (answer-left code m (roots-inside _ c.args.self.now c.self.view_is c.self.invariant.inside) at s ss h)
