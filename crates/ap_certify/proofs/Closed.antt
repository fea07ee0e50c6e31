-- A closed table that gives what the groups leave out certifies the program.
use Rattle.std.proofs.Common.{◌≡◌, ℕ, inl, inr, Bool, true, false, if◌then◌else◌, IsTrue, List, [], ◌∷◌, ◌++◌, Some, refl, ap, sym, ◌∙◌, subst}
use Rattle.std.specs.List.{All, flat_map}
use Rattle.std.proofs.lemmas.Bool.{false≢true, and_parts}
use Rattle.std.proofs.lemmas.List.Elements.{All-head, All-tail, All-nil, All-cons}
use Rattle.ap_term.specs.declared.fixed.TheConstants.{QUERY}
use Rattle.ap_term.specs.declared.clauses.Check.{Check}
use Rattle.ap_term.specs.Tree.{Tree, Trees, var, int, atom, node, none, more, count_trees}
use Rattle.ap_term.specs.WellFormed.{callable, numbered, IsClause, IsProgram}
use Rattle.ap_term.specs.Substitution.{instance}
use Rattle.ap_term.specs.Independence.{IsInFullCondition}
use Rattle.ap_certify.specs.Written.{is_written}
use Rattle.ap_term.specs.Goals.{Part, call, group, Clause, Program}
use Rattle.ap_term.proofs.Copies.{instance_var}
use Rattle.ap_absunify.specs.declared.states.State.{State}
use Rattle.ap_absunify.specs.declared.states.State.TheVariants.{Unreachable, Reachable}
use Rattle.ap_absunify.specs.State.{Covers}
use Rattle.ap_patterns.specs.declared.entries.Entries.{Entries}
use Rattle.ap_patterns.specs.declared.entries.Entries.TheVariants.{All as AllOf, One, Query}
use Rattle.ap_patterns.specs.declared.tables.Predicate.{Predicate}
use Rattle.ap_patterns.specs.declared.slots.Slot.TheVariants.{Call}
use Rattle.ap_patterns.specs.Entry.{marked_pattern}
use Rattle.ap_patterns.specs.Places.{arguments, argument}
use Rattle.ap_patterns.specs.Table.{predicate_of}
use Rattle.ap_patterns.specs.Given.{Patterns, call_at, to_call, to_success, after_goal, after_goals, after_part, after_body, given_by_goal, given_at_fork, given_in_turn, given_by_body, given_from, given_anyhow, given_by_all, given_by_any_part, given_unanalysed, given_by_clause, given_by_heads, given_by_entries, any_pattern, anything, is_analysed, entered}
use Rattle.ap_patterns.specs.Covered.{IsHeld, IsClosed}
use Rattle.ap_patterns.proofs.Coverings.{covered-covers}
use Rattle.ap_patterns.proofs.Marks.{marked-covers}
use Rattle.ap_tracked.specs.Tracked.{IsOneOf, Tracked}
use Rattle.ap_tracked.specs.Forks.{Fork, IsUnused, Forks, here, below, beside}
use Rattle.ap_certify.specs.Entered.{HasClause, IsEntered}
use Rattle.ap_certify.specs.Certificate.{AreMissingGiven}
use Rattle.ap_certify.specs.GroupsGiven.{AreGiven, AreWritten, IsReached, IsGivenAs, IsClauseGiven, AreGroupsGiven}
use Rattle.ap_certify.specs.declared.certified.Scope.TheVariants.{Of}
use Rattle.ap_certify.specs.declared.sights.Sight.TheVariants.{Known, Unknown}
use Rattle.ap_certify.specs.Sights.{pattern_in, after_all, after_parts, entry_as}
use Rattle.ap_certify.specs.Held.{AreHeldAtFork, AreHeldInTurn, GivesMissing, IsBodyHeld}
use Rattle.ap_certify.proofs.Seen.{held_call, callable_instance, IsCalled, predicate, any-covers}
use Rattle.ap_certify.proofs.Sound.{ClauseHeld, AllHeld, body_callable, IsGood, goal_good}
use Rattle.ap_certify.proofs.Items.{IsSafe, one, bares, Reached, child_safe, first_good, reached_fork}

-- ---- lists

pub left_all : {X : Type 0} (P : X → Type 0) (xs ys : List X) → All P (xs ++ ys) → All P xs
left_all P [] ys h = All-nil P
left_all P (x ∷ xs) ys h = All-cons P x xs (All-head P x (xs ++ ys) h) (left_all P xs ys (All-tail P x (xs ++ ys) h))

pub right_all : {X : Type 0} (P : X → Type 0) (xs ys : List X) → All P (xs ++ ys) → All P ys
right_all P [] ys h = h
right_all P (x ∷ xs) ys h = right_all P xs ys (All-tail P x (xs ++ ys) h)

pub each : {X : Type 0} (P : X → Type 0) (xs : List X) → All P xs → (x : X) → IsOneOf x xs → P x
each P [] h x i = absurd i
each P (y ∷ xs) h x (inl e) = subst P (sym e) (All-head P y xs h)
each P (y ∷ xs) h x (inr i) = each P xs (All-tail P y xs h) x i

each_given : {X Y : Type 0} (P : Y → Type 0) (g : X → List Y) (xs : List X) → All P (flat_map g xs) → (x : X) → IsOneOf x xs → All P (g x)
each_given P g [] h x i = absurd i
each_given P g (y ∷ xs) h x (inl e) = subst (λ z. All P (g z)) (sym e) (left_all P (g y) (flat_map g xs) h)
each_given P g (y ∷ xs) h x (inr i) = each_given P g xs (right_all P (g y) (flat_map g xs) h) x i

-- ---- what a clause gives is held

pub after_known : (t : Patterns) (s : State) (gs : Trees) → after_all t (Known s) gs ≡ Known (after_goals t s gs)
after_known t s none = refl
after_known t s (more g gs) = after_known t (after_goal t s g) gs

pub after_unknown : (t : Patterns) (s : State) (gs : Trees) → after_all t (Unknown s) gs ≡ Unknown s
after_unknown t s none = refl
after_unknown t s (more g gs) = after_unknown t s gs

fork_held : (t : Patterns) (s : State) (gs : Trees) → All (IsHeld t) (given_at_fork s gs) → AreHeldAtFork t (Known s) gs
fork_held t s none h = tt
fork_held t s (more g gs) h = (left_all (IsHeld t) (given_by_goal s g) (given_at_fork s gs) h, fork_held t s gs (right_all (IsHeld t) (given_by_goal s g) (given_at_fork s gs) h))

turn_held : (t : Patterns) (s : State) (gs : Trees) → All (IsHeld t) (given_in_turn t s gs) → AreHeldInTurn t (Known s) gs
turn_held t s none h = tt
turn_held t s (more g gs) h =
    let rest = given_in_turn t (after_goal t s g) gs in
    (left_all (IsHeld t) (given_by_goal s g) rest h, turn_held t (after_goal t s g) gs (right_all (IsHeld t) (given_by_goal s g) rest h))

body_held : (t : Patterns) (s : State) (ps : List Part) → All (IsHeld t) (given_by_body t s ps) → AreGiven t s ps → IsBodyHeld t (Known s) ps
body_held t s [] h m = tt
body_held t s (call g ∷ ps) h m =
    let rest = given_by_body t (after_part t s (call g)) ps in
    (left_all (IsHeld t) (given_by_goal s g) rest h, body_held t (after_part t s (call g)) ps (right_all (IsHeld t) (given_by_goal s g) rest h) m)
body_held t s (group cs gs ∷ ps) h m =
    let mine = given_at_fork s gs ++ given_in_turn t s gs in
    let rest = given_by_body t (after_goals t s gs) ps in
    let g = left_all (IsHeld t) mine rest h in (
      (
        m.0,
        fork_held t s gs (left_all (IsHeld t) (given_at_fork s gs) (given_in_turn t s gs) g),
        turn_held t s gs (right_all (IsHeld t) (given_at_fork s gs) (given_in_turn t s gs) g),
      ),
      subst (λ z. IsBodyHeld t z ps) (sym (after_known t s gs)) (body_held t (after_goals t s gs) ps (right_all (IsHeld t) mine rest h) m.1),
    )

pub after_parts_known : (t : Patterns) (s : State) (ps : List Part) → after_parts t (Known s) ps ≡ Known (after_body t s ps)
after_parts_known t s [] = refl
after_parts_known t s (call g ∷ ps) = after_parts_known t (after_part t s (call g)) ps
after_parts_known t s (group cs gs ∷ ps) = ap (λ z. after_parts t z ps) (after_known t s gs) ∙ after_parts_known t (after_goals t s gs) ps

fork_anyhow : (t : Patterns) (s : State) (gs : Trees) → All (IsHeld t) (given_by_all s gs) → AreHeldAtFork t (Unknown s) gs
fork_anyhow t s none h = tt
fork_anyhow t s (more g gs) h = (left_all (IsHeld t) (given_anyhow s g) (given_by_all s gs) h, fork_anyhow t s gs (right_all (IsHeld t) (given_anyhow s g) (given_by_all s gs) h))

turn_anyhow : (t : Patterns) (s : State) (gs : Trees) → All (IsHeld t) (given_by_all s gs) → AreHeldInTurn t (Unknown s) gs
turn_anyhow t s none h = tt
turn_anyhow t s (more g gs) h = (left_all (IsHeld t) (given_anyhow s g) (given_by_all s gs) h, turn_anyhow t s gs (right_all (IsHeld t) (given_anyhow s g) (given_by_all s gs) h))

missing_anyhow : (s : State) (cs : List Check) (gs : Trees) → (IsReached s → (c : Check) → IsInFullCondition gs c → is_written c cs ≡ true) → GivesMissing (Unknown s) cs gs
missing_anyhow Unreachable cs gs h c i w = refl
missing_anyhow (Reachable sh fr) cs gs h c i w = absurd (false≢true (sym w ∙ h tt c i))

body_anyhow : (t : Patterns) (s : State) (ps : List Part) → All (IsHeld t) (flat_map (given_by_any_part s) ps) → (IsReached s → AreWritten ps) → IsBodyHeld t (Unknown s) ps
body_anyhow t s [] h m = tt
body_anyhow t s (call g ∷ ps) h m =
    let rest = flat_map (given_by_any_part s) ps in
    (left_all (IsHeld t) (given_anyhow s g) rest h, body_anyhow t s ps (right_all (IsHeld t) (given_anyhow s g) rest h) m)
body_anyhow t s (group cs gs ∷ ps) h m =
    let rest = flat_map (given_by_any_part s) ps in
    let g = left_all (IsHeld t) (given_by_all s gs) rest h in (
      (missing_anyhow s cs gs (λ r. (m r).0), fork_anyhow t s gs g, turn_anyhow t s gs g),
      subst (λ z. IsBodyHeld t z ps) (sym (after_unknown t s gs)) (body_anyhow t s ps (right_all (IsHeld t) (given_by_all s gs) rest h) (λ r. (m r).1)),
    )

pub after_parts_unknown : (t : Patterns) (s : State) (ps : List Part) → after_parts t (Unknown s) ps ≡ Unknown s
after_parts_unknown t s [] = refl
after_parts_unknown t s (call g ∷ ps) = after_parts_unknown t s ps
after_parts_unknown t s (group cs gs ∷ ps) = ap (λ z. after_parts t z ps) (after_unknown t s gs) ∙ after_parts_unknown t s ps

-- ---- clauses and entries

clause_parts : (t : Patterns) (c : Clause) (b : Bool) → All (IsHeld t) (if b then given_from t (entered t c) c else given_unanalysed (call_at t (predicate_of c.head)) c) → IsGivenAs b t c
    → IsBodyHeld t (entry_as b t c) c.body × All (IsHeld t) (to_success (predicate_of c.head) (pattern_in (after_parts t (entry_as b t c) c.body) c.head))
clause_parts t c true h m =
    let mine = given_by_body t (entered t c) c.body in
    let last = to_success (predicate_of c.head) (pattern_in (Known (after_body t (entered t c) c.body)) c.head) in (
      body_held t (entered t c) c.body (left_all (IsHeld t) mine last h) m,
      subst (λ z. All (IsHeld t) (to_success (predicate_of c.head) (pattern_in z c.head))) (sym (after_parts_known t (entered t c) c.body)) (right_all (IsHeld t) mine last h),
    )
clause_parts t c false h m =
    let s = call_at t (predicate_of c.head) in
    let mine = flat_map (given_by_any_part s) c.body in
    let last = to_success (predicate_of c.head) (anything s c.head) in (
      body_anyhow t s c.body (left_all (IsHeld t) mine last h) m,
      subst (λ z. All (IsHeld t) (to_success (predicate_of c.head) (pattern_in z c.head))) (sym (after_parts_unknown t s c.body)) (right_all (IsHeld t) mine last h),
    )

clause_held : (t : Patterns) (c : Clause) → IsClause c → All (IsHeld t) (given_by_clause t c) → IsClauseGiven t c → ClauseHeld t c
clause_held t c w h m =
    let r = and_parts (callable c.head) (numbered c.vars c.head) w.head in
    let p = clause_parts t c (is_analysed c) h m in
    record { head = r.0; numbers = r.1; goals = body_callable c.vars c.body w.body; body = p.0; success = p.1 }

pub all_held : (E : Entries) (A : Program) (t : Patterns) → IsProgram A → IsClosed E A t → AreGroupsGiven t A → AllHeld t A
all_held E A t w h m c i =
    clause_held t c (each IsClause A w c i) (each_given (IsHeld t) (given_by_clause t) A (right_all (IsHeld t) (given_by_entries E A) (flat_map (given_by_clause t) A) h) c i) (each (IsClauseGiven t) A m c i)

pub arity_of : (g : Tree) (p : Predicate) → predicate_of g ≡ Some p → p.arity ≡ count_trees (arguments g)
arity_of (var x) p e = absurd (cc)
arity_of (int z) p e = absurd (cc)
arity_of (atom a) p e = let q : record { name = a; arity = 0 } ≡ p = cc in ap (λ r. r.arity) (sym q)
arity_of (node a ts) p e = let q : record { name = a; arity = count_trees ts } ≡ p = cc in ap (λ r. r.arity) (sym q)

clause_called : (t : Patterns) (A : Program) (g : Tree) → IsTrue (callable g) → All (IsHeld t) (given_by_heads A) → HasClause A g → Covers (call_at t (predicate_of g)) (argument 1 (arguments g))
clause_called t [] g cg h i = absurd i
clause_called t (c ∷ cs) g cg h (inl e) =
    let p = predicate g cg in
    let mine = to_call (predicate_of c.head) (any_pattern (count_trees (arguments c.head))) in
    subst (λ o. Covers (call_at t o) (argument 1 (arguments g))) e
    (held_call t (predicate_of c.head) p.here (any_pattern (count_trees (arguments c.head))) (argument 1 (arguments g)) (e ∙ p.is) (left_all (IsHeld t) mine (given_by_heads cs) h)
    (any-covers (count_trees (arguments c.head)) (arguments g) (sym p.many ∙ arity_of c.head p.here (e ∙ p.is))))
clause_called t (c ∷ cs) g cg h (inr i) =
    clause_called t cs g cg (right_all (IsHeld t) (to_call (predicate_of c.head) (any_pattern (count_trees (arguments c.head)))) (given_by_heads cs) h) i

entry_called : (E : Entries) (A : Program) (t : Patterns) (g : Tree) → All (IsHeld t) (given_by_entries E A) → IsEntered A E g → IsTrue (callable g) × IsCalled t g
entry_called AllOf A t g h e = (e.0, λ q. clause_called t A g e.0 h e.1)
entry_called (One m) A t g h e =
    let c : Covers (t (Call m.predicate)) (argument 1 (arguments g)) =
    covered-covers (marked_pattern m.marks.items) (t (Call m.predicate)) (argument 1 (arguments g))
    (All-head (IsHeld t) (record { slot = Call m.predicate; pattern = marked_pattern m.marks.items }) [] h) (marked-covers m.marks.items (arguments g) e.2) in
    (e.0, λ q. subst (λ o. Covers (call_at t o) (argument 1 (arguments g))) (sym e.1) c)
entry_called Query A t g h e =
    let c : Covers (call_at t (predicate_of (atom QUERY))) (argument 1 none) =
    covered-covers (any_pattern 0) (t (Call (record { name = QUERY; arity = 0 }))) (argument 1 none)
    (All-head (IsHeld t) (record { slot = Call (record { name = QUERY; arity = 0 }); pattern = any_pattern 0 }) [] h) (any-covers 0 none refl) in
    (subst (λ z. IsTrue (callable z)) (sym e) refl, λ q. subst (λ z. Covers (call_at t (predicate_of z)) (argument 1 (arguments z))) (sym e) c)

-- ---- searches

module _ (A : Program) (t : Patterns) (held : AllHeld t A) where
  goal_safe : (g : Tree) (n : ℕ) → IsTrue (callable g) → IsCalled t g → IsUnused n g → IsSafe A (IsGood t) (one g ∷ []) n
  goal_safe g n cg c u d h r =
      let e = instance_var g in
      goal_good A t held (reached_fork A h d n g (λ x. var x) (subst (λ z. Reached A d (one z ∷ []) n h) (sym e) r))
      (subst (λ z. IsTrue (callable z)) (sym e) cg) (subst (IsUnused n) (sym e) u) (subst (IsCalled t) (sym e) c)

  good_forks : {s : Tracked} {d : ℕ} {f : Fork} → Forks A s d f → IsSafe A (IsGood t) (bares s.goals) s.next → IsGood t f
  good_forks (here {s = s} {f = f} l c) safe = first_good A (IsGood t) s.goals s.next f safe c
  good_forks (below {s = s} r l i k) safe = good_forks k (child_safe A (IsGood t) s r s.goals safe i)
  good_forks (beside e g n k i u m) safe =
      let q = (good_forks k safe).goals g i in
      good_forks m (goal_safe (instance e.own g) n (callable_instance e.own g q.0) q.1 u)

pub certified : (E : Entries) (A : Program) (t : Patterns) → IsProgram A → IsClosed E A t → AreGroupsGiven t A → AreMissingGiven A (Of E)
certified E A t w h m g en n u d f k =
    let held = all_held E A t w h m in
    let c = entry_called E A t g (left_all (IsHeld t) (given_by_entries E A) (flat_map (given_by_clause t) A) h) en in
    (good_forks A t held k (goal_safe A t held g n c.0 c.1 u)).missing
