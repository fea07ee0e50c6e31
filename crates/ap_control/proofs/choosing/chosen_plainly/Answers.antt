use Rattle.std.proofs.Common.{◌≡◌, [], ◌∷◌, subst}
use Rattle.ap_instr.specs.Code.{Compiled}
use Rattle.ap_instr.specs.StandsFor.{clause_places}
use Rattle.ap_standing.specs.Machine.{places_from}
use Rattle.ap_control.proofs.Passed.{passes-none}
use Rattle.ap_control.proofs.choosing.chosen_plainly.Goals as goal

pub returns-in-Some-clause-some : goal.returns-in-Some-clause-some
returns-in-Some-clause-some c = λ n cs x.
    let code = c.args.sound.now in
    let q = c.args.predicate.now in
    let found = c.in-Some.found in
    c.of.ensures code cs x n (clause_places code q)
    (passes-none code cs x (clause_places code q) (found.place ∷ places_from code found.behind)
    (subst (λ (k : Compiled). clause_places k q ≡ found.place ∷ places_from k found.behind) c.code.ensures.same c.in-Some.ensures.some))
    (c.next_unknown.ensures.passes cs x) (c.next_unknown.ensures.sure n cs x)

pub returns-in-None-clause-none : goal.returns-in-None-clause-none
returns-in-None-clause-none c = λ e cs x.
    let code = c.args.sound.now in
    let q = c.args.predicate.now in
    passes-none code cs x (clause_places code q) [] (subst (λ (k : Compiled). clause_places k q ≡ []) c.code.ensures.same (c.first.ensures.none c.in-None.is))
