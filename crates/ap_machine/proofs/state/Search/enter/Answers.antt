use Rattle.std.proofs.Common.{◌≡◌, [], slice_get, Some, ap, sym, ◌∙◌, subst}
use Rattle.ap_instr.specs.Code.{Compiled}
use Rattle.ap_instr.specs.StandsFor.{clause_places}
use Rattle.ap_steps.specs.Moves.{held}
use Rattle.ap_standing.specs.Laws.{IsTurn}
use Rattle.ap_control.specs.Heads.{PassesOver}
use Rattle.ap_control.specs.Choosing.{IsOnly, IsTold}
use Rattle.ap_machine.specs.View.{Paused}
use Rattle.ap_machine.proofs.Entered.{turns-to-none, turns-to-one}
use Rattle.ap_machine.proofs.state.Search.enter.Goals as goal

pub returns-in-Only-clause-turn : goal.returns-in-Only-clause-turn
returns-in-Only-clause-turn c = λ p q known good stands.
    let code = c.args.sound.now in
    let m = c.args.self.now.machine in
    let it = c.in-Some.predicate in
    let found : Some it ≡ slice_get code.predicates c.args.number = c.in-Some.ensures ∙ ap (λ (k : Compiled). slice_get k.predicates c.args.number) c.code-code.ensures.same in
    let only : IsOnly code m.cells (held m.x) (clause_places code it) c.in-Only.place = subst (IsTold code m.cells (held m.x) it) c.in-Only.is c.only.ensures in
    subst (IsTurn code p m) (sym (ap (λ (s : Paused). s.machine) c.resume.ensures))
    (turns-to-one code m c.args.number c.requires.due it found p q known good stands c.in-Only.place only.behind only.first only.next)

pub returns-in-Never-clause-turn : goal.returns-in-Never-clause-turn
returns-in-Never-clause-turn c = λ p q known good stands.
    let code = c.args.sound.now in
    let m = c.args.self.now.machine in
    let it = c.in-Some.predicate in
    let found : Some it ≡ slice_get code.predicates c.args.number = c.in-Some.ensures ∙ ap (λ (k : Compiled). slice_get k.predicates c.args.number) c.code-code.ensures.same in
    let none : PassesOver code m.cells (held m.x) (clause_places code it) [] = subst (IsTold code m.cells (held m.x) it) c.in-Never.is c.only.ensures in
    subst (IsTurn code p m) (sym (ap (λ (s : Paused). s.machine) c.fail-in-Never.ensures))
    (turns-to-none code m c.args.number c.requires.due it found p q known good stands none)
