use Rattle.std.proofs.Common.{List, ℕ, [], ◌∷◌, Option, Some, None, inl, inr, subst}
use Rattle.std.specs.Prelude.{IfSome}
use Rattle.ap_instr.specs.StandsFor.{clause_places}
use Rattle.ap_steps.specs.Moves.{held}
use Rattle.ap_standing.specs.Machine.{places_from}
use Rattle.ap_index.specs.Index.{IsChoiceAt}
use Rattle.ap_control.specs.declared.choosing.Chosen.{Chosen}
use Rattle.ap_control.specs.Heads.{PassesOver}
use Rattle.ap_control.specs.Choosing.{IsChosen}
use Rattle.ap_control.proofs.Keys.{begin-places, choice-places}
use Rattle.ap_control.proofs.Passed.{passes-none, passes-then, chosen-then}
use Rattle.ap_control.proofs.choosing.choose.Goals.{After-chosen_from}
use Rattle.ap_control.proofs.choosing.choose.Goals as goal

-- the clauses are left that the choice names
left : (c : After-chosen_from) → PassesOver c.args.sound.now c.args.cells.now.cells (held c.args.x.now) (clause_places c.args.sound.now c.args.predicate.now)
    (c.in-Some.found.now.named.place ∷ places_from c.args.sound.now c.in-Some.found.now.named.behind)
left c =
    let code = c.args.sound.now in
    let cs = c.args.cells.now.cells in
    let x = held c.args.x.now in
    let q = c.args.predicate.now in
    let found = c.in-Some.found.now in
    let all = clause_places code q in
    elim c.requires.from [
      | inl e ↦ passes-none code cs x all (found.named.place ∷ places_from code found.named.behind)
          (begin-places code q found (subst (λ at. IsChoiceAt code at found) e c.in-Some.ensures) (c.names_clauses.ensures c.if-names_clauses.true e))
      | inr over ↦ subst (PassesOver code cs x all) (choice-places code c.args.from found c.in-Some.ensures) over
    ]

pub returns-in-Some-clause-none : goal.returns-in-Some-clause-none
returns-in-Some-clause-none c = λ e.
    let code = c.args.sound.now in
    let found = c.in-Some.found.now.named in
    passes-then code c.args.cells.now.cells (held c.args.x.now) (clause_places code c.args.predicate.now) (found.place ∷ places_from code found.behind) [] (left c) (c.chosen_from.ensures.none e)

pub returns-in-Some-clause-some : goal.returns-in-Some-clause-some
returns-in-Some-clause-some c =
    let code = c.args.sound.now in
    let cs = c.args.cells.now.cells in
    let x = held c.args.x.now in
    let n = c.args.predicate.now.arity in
    let all = clause_places code c.args.predicate.now in
    let found = c.in-Some.found.now.named in
    let rest : List ℕ = found.place ∷ places_from code found.behind in
    elim c.chosen_from.result as (λ (o : Option Chosen). IfSome o (IsChosen code cs x n rest) → IfSome o (IsChosen code cs x n all)) [
      | None ↦ λ h. h
      | Some k ↦ λ h. chosen-then code cs x n all rest k (left c) h
    ] c.chosen_from.ensures.some

-- where the index has no choice there
pub returns-in_ok-chosen_plainly-in_default-clause-some : goal.returns-in_ok-chosen_plainly-in_default-clause-some
returns-in_ok-chosen_plainly-in_default-clause-some c = c.in_ok-chosen_plainly-in_default.ensures.some c.args.predicate.now.arity c.args.cells.now.cells (held c.args.x.now)
