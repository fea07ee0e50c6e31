-- What is held part by part is held as the definitions list it.
use Rattle.std.proofs.Common.{◌≡◌, ◌⊎◌, inl, inr, Bool, true, false, if◌then◌else◌, List, [], ◌∷◌, ◌++◌, subst}
use Rattle.std.specs.List.{All, flat_map}
use Rattle.std.proofs.lemmas.Bool.{false≢true}
use Rattle.std.proofs.lemmas.List.Elements.{All-nil, All-append}
use Rattle.ap_term.specs.declared.clauses.Check.{Check}
use Rattle.ap_term.specs.Tree.{Trees, none, more}
use Rattle.ap_term.specs.Independence.{IsInFullCondition}
use Rattle.ap_term.specs.Goals.{Part, call, group, Clause}
use Rattle.ap_absunify.specs.declared.states.State.{State}
use Rattle.ap_absunify.specs.declared.states.State.TheVariants.{Unreachable, Reachable}
use Rattle.ap_absunify.proofs.Vars.{decide}
use Rattle.ap_patterns.specs.Table.{predicate_of}
use Rattle.ap_patterns.specs.Places.{call_pattern}
use Rattle.ap_patterns.specs.Given.{Patterns, call_at, to_success, after_goal, after_goals, after_body, given_by_goal, given_at_fork, given_in_turn, given_by_body, given_from, given_anyhow, given_by_all, given_by_any_part, given_unanalysed, given_by_clause, anything, is_analysed, entered}
use Rattle.ap_patterns.specs.Covered.{IsHeld}
use Rattle.ap_certify.specs.declared.sights.Sight.TheVariants.{Known, Unknown}
use Rattle.ap_certify.specs.Written.{is_written}
use Rattle.ap_certify.specs.Sights.{after_parts, entry_as, entry}
use Rattle.ap_certify.specs.Held.{AreHeldAtFork, AreHeldInTurn, GivesMissing, IsBodyHeld}
use Rattle.ap_certify.specs.GroupsGiven.{AreGiven, AreWritten, IsReached, IsGivenAs, IsClauseGiven}
use Rattle.ap_certify.specs.Refused.{given_at_end}
use Rattle.ap_certify.proofs.Closed.{after_known, after_unknown, after_parts_known, after_parts_unknown}

fork_listed : (t : Patterns) (s : State) (gs : Trees) → AreHeldAtFork t (Known s) gs → All (IsHeld t) (given_at_fork s gs)
fork_listed t s none h = All-nil (IsHeld t)
fork_listed t s (more g gs) h = All-append (IsHeld t) (given_by_goal s g) (given_at_fork s gs) h.0 (fork_listed t s gs h.1)

turn_listed : (t : Patterns) (s : State) (gs : Trees) → AreHeldInTurn t (Known s) gs → All (IsHeld t) (given_in_turn t s gs)
turn_listed t s none h = All-nil (IsHeld t)
turn_listed t s (more g gs) h = All-append (IsHeld t) (given_by_goal s g) (given_in_turn t (after_goal t s g) gs) h.0 (turn_listed t (after_goal t s g) gs h.1)

body_listed : (t : Patterns) (s : State) (ps : List Part) → IsBodyHeld t (Known s) ps → All (IsHeld t) (given_by_body t s ps) × AreGiven t s ps
body_listed t s [] h = (All-nil (IsHeld t), tt)
body_listed t s (call g ∷ ps) h =
    let r = body_listed t (after_goal t s g) ps h.1 in
    (All-append (IsHeld t) (given_by_goal s g) (given_by_body t (after_goal t s g) ps) h.0 r.0, r.1)
body_listed t s (group cs gs ∷ ps) h =
    let r = body_listed t (after_goals t s gs) ps (subst (λ z. IsBodyHeld t z ps) (after_known t s gs) h.1) in
    let mine = All-append (IsHeld t) (given_at_fork s gs) (given_in_turn t s gs) (fork_listed t s gs h.0.1) (turn_listed t s gs h.0.2) in
    (All-append (IsHeld t) (given_at_fork s gs ++ given_in_turn t s gs) (given_by_body t (after_goals t s gs) ps) mine r.0, (h.0.0, r.1))

all_listed : (t : Patterns) (s : State) (gs : Trees) → AreHeldAtFork t (Unknown s) gs → All (IsHeld t) (given_by_all s gs)
all_listed t s none h = All-nil (IsHeld t)
all_listed t s (more g gs) h = All-append (IsHeld t) (given_anyhow s g) (given_by_all s gs) h.0 (all_listed t s gs h.1)

written : (s : State) (cs : List Check) (gs : Trees) → GivesMissing (Unknown s) cs gs → IsReached s → (c : Check) → IsInFullCondition gs c → is_written c cs ≡ true
written Unreachable cs gs h r c i = absurd r
written (Reachable sh fr) cs gs h r c i = go (decide (is_written c cs))
  where
    go : (is_written c cs ≡ true) ⊎ (is_written c cs ≡ false) → is_written c cs ≡ true
    go (inl e) = e
    go (inr e) = absurd (false≢true (h c i e))

anyhow_listed : (t : Patterns) (s : State) (ps : List Part) → IsBodyHeld t (Unknown s) ps → All (IsHeld t) (flat_map (given_by_any_part s) ps) × (IsReached s → AreWritten ps)
anyhow_listed t s [] h = (All-nil (IsHeld t), λ r. tt)
anyhow_listed t s (call g ∷ ps) h =
    let r = anyhow_listed t s ps h.1 in
    (All-append (IsHeld t) (given_anyhow s g) (flat_map (given_by_any_part s) ps) h.0 r.0, r.1)
anyhow_listed t s (group cs gs ∷ ps) h =
    let r = anyhow_listed t s ps (subst (λ z. IsBodyHeld t z ps) (after_unknown t s gs) h.1) in
    (All-append (IsHeld t) (given_by_all s gs) (flat_map (given_by_any_part s) ps) (all_listed t s gs h.0.1) r.0, λ q. (written s cs gs h.0.0 q, r.1 q))

-- what a clause gives is covered, and what its groups leave out is given
pub clause_listed : (t : Patterns) (c : Clause) → IsBodyHeld t (entry t c) c.body → All (IsHeld t) (given_at_end (after_parts t (entry t c) c.body) c.head)
    → All (IsHeld t) (given_by_clause t c) × IsClauseGiven t c
clause_listed t c h k = go (is_analysed c) h k
  where
    go : (b : Bool) → IsBodyHeld t (entry_as b t c) c.body → All (IsHeld t) (given_at_end (after_parts t (entry_as b t c) c.body) c.head)
        → All (IsHeld t) (if b then given_from t (entered t c) c else given_unanalysed (call_at t (predicate_of c.head)) c) × IsGivenAs b t c
    go true h k =
        let s = entered t c in
        let r = body_listed t s c.body h in
        let last = subst (λ z. All (IsHeld t) (given_at_end z c.head)) (after_parts_known t s c.body) k in
        (All-append (IsHeld t) (given_by_body t s c.body) (to_success (predicate_of c.head) (call_pattern (after_body t s c.body) c.head)) r.0 last, r.1)
    go false h k =
        let s = call_at t (predicate_of c.head) in
        let r = anyhow_listed t s c.body h in
        let last = subst (λ z. All (IsHeld t) (given_at_end z c.head)) (after_parts_unknown t s c.body) k in
        (All-append (IsHeld t) (flat_map (given_by_any_part s) c.body) (to_success (predicate_of c.head) (anything s c.head)) r.0 last, r.1)
