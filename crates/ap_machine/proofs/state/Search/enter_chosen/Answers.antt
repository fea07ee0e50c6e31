use Rattle.std.proofs.Common.{◌≡◌, ◌+◌, ◌∷◌, slice_get, take, Some, refl, ap, sym, ◌∙◌, subst, arith}
use Rattle.std.proofs.lemmas.List.{get_or-take}
use Rattle.ap_instr.specs.StandsFor.{clause_places}
use Rattle.ap_steps.specs.Moves.{held}
use Rattle.ap_standing.specs.Machine.{Machine, calling, inside, failed, places_from}
use Rattle.ap_standing.specs.Laws.{IsTurn}
use Rattle.ap_control.specs.Choosing.{IsOnly, AreNext, IsChosen}
use Rattle.ap_machine.specs.View.{Paused}
use Rattle.ap_machine.specs.Choices.{called_point}
use Rattle.ap_machine.specs.Live.{AreLive, UnifiesAt}
use Rattle.ap_machine.proofs.Entered.{turns-to-none, turns-to-one, turns-to-many, turns-to-first}
use Rattle.ap_machine.proofs.Living.{all-live}
use Rattle.ap_machine.proofs.state.Search.enter_chosen.Goals as goal

pub returns-in-None-clause-turn : goal.returns-in-None-clause-turn
returns-in-None-clause-turn c = λ p q known good stands.
    let code = c.args.sound.now in
    let m = c.args.self.now.machine in
    let found : Some c.args.predicate ≡ slice_get code.predicates c.args.number = sym c.requires.known in
    subst (IsTurn code p m) (sym (ap (λ (s : Paused). s.machine) c.fail.ensures))
    (turns-to-none code m c.args.number c.requires.due c.args.predicate found p q known good stands (c.chosen.ensures.none c.in-None.is))

pub returns-in-Some-Only-clause-turn : goal.returns-in-Some-Only-clause-turn
returns-in-Some-Only-clause-turn c = λ p q known good stands.
    let code = c.args.sound.now in
    let m = c.args.self.now.machine in
    let it = c.in-Some-Only in
    let all = clause_places code c.args.predicate in
    let found : Some c.args.predicate ≡ slice_get code.predicates c.args.number = sym c.requires.known in
    let only : IsOnly code m.cells (held m.x) all it.place = subst (IsChosen code m.cells (held m.x) c.args.predicate.arity all) it.field-0-is it.ensures.some in
    subst (IsTurn code p m) (sym (ap (λ (s : Paused). s.machine) c.resume.ensures))
    (turns-to-one code m c.args.number c.requires.due c.args.predicate found p q known good stands it.place only.behind only.first only.next)

pub returns-in_ok-keep-in-Some-First-clause-turn : goal.returns-in_ok-keep-in-Some-First-clause-turn
returns-in_ok-keep-in-Some-First-clause-turn c = λ p q known good stands.
    let code = c.args.sound.now in
    let m = c.args.self.now.machine in
    let it = c.in-Some-First in
    let first = it.first in
    let next = it.second.alternative in
    let all = clause_places code c.args.predicate in
    let found : Some c.args.predicate ≡ slice_get code.predicates c.args.number = sym c.requires.known in
    let are : AreNext code m.cells (held m.x) c.args.predicate.arity all first it.second = subst (IsChosen code m.cells (held m.x) c.args.predicate.arity all) it.field-0-is it.ensures.some in
    subst (IsTurn code p m) (sym (ap (λ (s : Paused). s.machine) c.resume-then-second.ensures ∙ ap (λ (s : Paused). record s.machine { now = inside first.place }) c.in_ok-keep-in-Some-First.ensures.ok))
    (turns-to-first code m c.args.number c.requires.due c.args.predicate found p q known good stands first.place (places_from code first.behind) next are.first are.next)

pub returns-in_ok-keep-in-Some-First-clause-live : goal.returns-in_ok-keep-in-Some-First-clause-live
returns-in_ok-keep-in-Some-First-clause-live c = λ live.
    let code = c.args.sound.now in
    let m = c.args.self.now.machine in
    let it = c.in-Some-First in
    let arity = c.args.predicate.arity in
    let first = it.first in
    let next = it.second.alternative in
    let point = called_point c.args.number arity next m in
    let all = clause_places code c.args.predicate in
    let are : AreNext code m.cells (held m.x) arity all first it.second = subst (IsChosen code m.cells (held m.x) arity all) it.field-0-is it.ensures.some in
    let takes : UnifiesAt code point next.place = are.sure c.if-second.true (held (take (arity + 1) m.x)) (λ w l. get_or-take (arity + 1) m.x w 0 (omega (arith, l))) in
    let new : Machine = record m { points = point ∷ m.points; now = inside first.place } in
    let whole : AreLive code new = (takes, all-live code m (calling c.args.number) c.requires.due (λ qs. refl) live) in
    subst (AreLive code) (sym (ap (λ (s : Paused). s.machine) c.resume-then-second.ensures ∙ ap (λ (s : Paused). record s.machine { now = inside first.place }) c.in_ok-keep-in-Some-First.ensures.ok)) whole

pub returns-in_ok-keep-in-Some-First-2-clause-turn : goal.returns-in_ok-keep-in-Some-First-2-clause-turn
returns-in_ok-keep-in-Some-First-2-clause-turn c = λ p q known good stands.
    let code = c.args.sound.now in
    let m = c.args.self.now.machine in
    let it = c.in-Some-First in
    let first = it.first in
    let all = clause_places code c.args.predicate in
    let found : Some c.args.predicate ≡ slice_get code.predicates c.args.number = sym c.requires.known in
    let are : AreNext code m.cells (held m.x) c.args.predicate.arity all first it.second = subst (IsChosen code m.cells (held m.x) c.args.predicate.arity all) it.field-0-is it.ensures.some in
    subst (IsTurn code p m) (sym (ap (λ (s : Paused). s.machine) c.fail-else-second.ensures ∙ ap (λ (s : Paused). record s.machine { now = failed }) c.in_ok-keep-in-Some-First-2.ensures.ok))
    (turns-to-many code m c.args.number c.requires.due c.args.predicate found p q known good stands first are.first)
