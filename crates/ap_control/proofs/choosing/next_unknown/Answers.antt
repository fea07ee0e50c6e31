use Rattle.std.proofs.Common.{◌≡◌, [], ◌∷◌, subst}
use Rattle.std.proofs.lemmas.Bool.{false≢true}
use Rattle.ap_instr.specs.Code.{Compiled}
use Rattle.ap_standing.specs.Machine.{places_from}
use Rattle.ap_control.proofs.Passed.{passes-none}
use Rattle.ap_control.proofs.choosing.next_unknown.Goals as goal

pub returns-in-Some-clause-passes : goal.returns-in-Some-clause-passes
returns-in-Some-clause-passes c = λ cs x.
    let code = c.args.sound.now in
    let from = c.args.from in
    let found = c.in-Some.alternative in
    passes-none code cs x (places_from code from) (found.place ∷ places_from code found.behind)
    (subst (λ (k : Compiled). places_from k from ≡ found.place ∷ places_from k found.behind) c.code.ensures.same c.in-Some.ensures.some)

pub returns-in-Some-clause-sure : goal.returns-in-Some-clause-sure
returns-in-Some-clause-sure c = λ n cs x e. absurd (false≢true e)

pub returns-in-None-clause-passes : goal.returns-in-None-clause-passes
returns-in-None-clause-passes c = λ cs x.
    let code = c.args.sound.now in
    let from = c.args.from in
    passes-none code cs x (places_from code from) [] (subst (λ (k : Compiled). places_from k from ≡ []) c.code.ensures.same (c.following.ensures.none c.in-None.is))
