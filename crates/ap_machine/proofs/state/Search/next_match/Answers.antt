use Rattle.std.proofs.Common.{◌≡◌, ℕ, ◌≤◌, List, [], ◌∷◌, length, Option, Some, true, refl, sym, subst, arith}
use Rattle.std.specs.Prelude.{IfSome}
use Rattle.ap_instr.specs.Code.{Compiled}
use Rattle.ap_steps.specs.Moves.{held, IsStuck}
use Rattle.ap_instr.specs.Steps.{steps_from}
use Rattle.ap_standing.specs.Machine.{places_from}
use Rattle.ap_control.specs.declared.choosing.Possible.{Possible}
use Rattle.ap_control.specs.Heads.{PassesOver}
use Rattle.ap_control.specs.Taking.{CanTake}
use Rattle.ap_control.specs.Choosing.{possible_places}
use Rattle.ap_control.proofs.Passed.{passes-shorter}
use Rattle.ap_machine.specs.View.{Paused, IsFor}
use Rattle.ap_machine.specs.Choices.{Returned, LeavesOut}
use Rattle.ap_machine.proofs.Alternatives.{Returned-trans, Returned-refl, IsFor-stays, leaves-all, leaves-stuck, leaves-passed}
use Rattle.ap_machine.proofs.Living.{live-still, unifies-at, UnifiesAtNewest-same}
use Rattle.ap_machine.proofs.state.Search.next_match.Goals as goal

-- those from the one that was found on
from_found : (code : Compiled) (s t : Paused) (ls rest : List ℕ) (o : Option Possible) (found : Possible) → o ≡ Some found → Returned s t → LeavesOut code s.machine ls rest
    → PassesOver code t.machine.cells (held t.machine.x) rest (possible_places code o) → LeavesOut code s.machine ls (found.alternative.place ∷ places_from code found.alternative.behind)
from_found code s t ls rest o found e back out p =
    leaves-passed code s t ls rest (found.alternative.place ∷ places_from code found.alternative.behind) back back.at out
    (subst (λ next. PassesOver code t.machine.cells (held t.machine.x) rest (possible_places code next)) e p)

pub loop-found-init : goal.loop-found-init
loop-found-init c = record {
  back = Returned-refl c.args.self.now c.requires.at;
  left = leaves-all c.args.sound.now c.args.self.now.machine (places_from c.args.sound.now c.args.behind);
}

pub try_clause-requires-clause-is_for : goal.try_clause-requires-clause-is_for
try_clause-requires-clause-is_for c =
    subst (λ (k : Compiled). IsFor k c.loop-found.self) (sym c.code-code.ensures.same) (IsFor-stays c.args.sound.now c.args.self.now c.loop-found.self c.loop-found.invariant.back.stays
    (live-still c.args.sound.now c.args.self.now.machine c.loop-found.self.machine c.loop-found.invariant.back.now c.loop-found.invariant.back.points c.requires.is_for.live) c.requires.is_for)

pub returns-then-found-clause-left : goal.returns-then-found-clause-left
returns-then-found-clause-left c =
    let code = c.args.sound.now in
    from_found code c.args.self.now c.loop-found.self (places_from code c.args.behind) (places_from code c.loop-found.rest) c.possible.result c.in-Some.found c.in-Some.is c.loop-found.invariant.back c.loop-found.invariant.left c.possible.ensures.passes

pub returns-then-found-clause-live : goal.returns-then-found-clause-live
returns-then-found-clause-live c =
    let code = c.args.sound.now in
    let m = c.loop-found.self.machine in
    let place = c.in-Some.found.alternative.place in
    let sure = subst (λ next. IfSome next (λ p. p.sure ≡ true → CanTake code m.cells (held m.x) p.alternative.place)) c.in-Some.is c.possible.ensures.sure in
    UnifiesAtNewest-same code c.args.self.now.machine m c.loop-found.invariant.back.points place (unifies-at code m c.loop-found.invariant.back.at place (sure c.if-found.true))

pub returns-then-branch-clause-left : goal.returns-then-branch-clause-left
returns-then-branch-clause-left c =
    let code = c.args.sound.now in
    from_found code c.args.self.now c.loop-found.self (places_from code c.args.behind) (places_from code c.loop-found.rest) c.possible.result c.in-Some.found c.in-Some.is c.loop-found.invariant.back c.loop-found.invariant.left c.possible.ensures.passes

pub returns-then-branch-clause-live : goal.returns-then-branch-clause-live
returns-then-branch-clause-live c =
    let code = c.args.sound.now in
    let m = c.loop-found.self.machine in
    let place = c.in-Some.found.alternative.place in
    UnifiesAtNewest-same code c.args.self.now.machine m c.loop-found.invariant.back.points place
    (unifies-at code m c.loop-found.invariant.back.at place (subst (λ (k : Compiled). CanTake k m.cells (held m.x) place) c.code-code.ensures.same (c.in_ok-try_clause.ensures.taken c.if-branch.true)))

pub returns-then-branch-clause-back : goal.returns-then-branch-clause-back
returns-then-branch-clause-back c = Returned-trans c.args.self.now c.loop-found.self c.try_clause.new.self c.loop-found.invariant.back c.try_clause.ensures.back

pub returns-in_err-try_clause-clause-back : goal.returns-in_err-try_clause-clause-back
returns-in_err-try_clause-clause-back c = Returned-trans c.args.self.now c.loop-found.self c.try_clause.new.self c.loop-found.invariant.back c.try_clause.ensures.back

pub loop-found-preserved : goal.loop-found-preserved
loop-found-preserved c =
    let code = c.args.sound.now in
    let first = c.loop-found.invariant.back in
    let m = c.loop-found.self.machine in
    let a = c.in-Some.found.alternative in
    let ls = places_from code c.args.behind in
    let behind = places_from code a.behind in
    let stuck : IsStuck m.cells (held m.x) (held m.y) (steps_from code a.place) =
    subst (λ (k : Compiled). IsStuck m.cells (held m.x) (held m.y) (steps_from k a.place)) c.code-code.ensures.same (c.in_ok-try_clause.ensures.stuck c.if-branch.false) in
    record {
      back = Returned-trans c.args.self.now c.loop-found.self c.try_clause.new.self first c.try_clause.ensures.back;
      left = leaves-stuck code c.args.self.now c.loop-found.self ls (a.place ∷ behind) behind a.place first first.at
          (from_found code c.args.self.now c.loop-found.self ls (places_from code c.loop-found.rest) c.possible.result c.in-Some.found c.in-Some.is first c.loop-found.invariant.left c.possible.ensures.passes) refl stuck;
    }

pub loop-found-smaller : goal.loop-found-smaller
loop-found-smaller c =
    let code = c.args.sound.now in
    let m = c.loop-found.self.machine in
    let rest = places_from code c.loop-found.rest in
    let a = c.in-Some.found.alternative in
    let behind = places_from code a.behind in
    let few : length (a.place ∷ behind) ≤ length rest =
    passes-shorter code m.cells (held m.x) rest (a.place ∷ behind)
    (subst (λ next. PassesOver code m.cells (held m.x) rest (possible_places code next)) c.in-Some.is c.possible.ensures.passes) in
    omega (arith, few)

pub returns-clause-left : goal.returns-clause-left
returns-clause-left c =
    let code = c.args.sound.now in
    let m = c.loop-found.self.machine in
    let back = c.loop-found.invariant.back in
    leaves-passed code c.args.self.now c.loop-found.self (places_from code c.args.behind) (places_from code c.loop-found.rest) [] back back.at c.loop-found.invariant.left
    (subst (λ next. PassesOver code m.cells (held m.x) (places_from code c.loop-found.rest) (possible_places code next)) c.in_default.is c.possible.ensures.passes)
