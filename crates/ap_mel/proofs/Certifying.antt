-- A program that a pass leaves as it is has what its table doesn't give.
use Rattle.std.proofs.Common.{◌≡◌, ℕ, ◌≤◌, inl, inr, Bool, true, false, ◌&&◌, ◌||◌, not, nat_le, if◌then◌else◌, IsTrue, List, [], ◌∷◌, Some, Result, Ok, Err, IfOk, length, refl, ap, sym, ◌∙◌, subst, arith}
use Rattle.std.specs.List.{list_all, filter}
use Rattle.std.proofs.lemmas.Bool.{false≢true, and_parts, leb-true, not_from_false}
use Rattle.std.proofs.lemmas.List.Elements.{All-nil, All-cons, All-head, All-tail}
use Rattle.ap_term.specs.declared.clauses.Check.{Check}
use Rattle.ap_term.specs.declared.clauses.Check.TheVariants.{Ground, Indep}
use Rattle.ap_term.specs.Tree.{Tree, Trees}
use Rattle.ap_term.specs.Goals.{Part, call, group, Clause, Program}
use Rattle.ap_term.specs.Independence.{IsInFullCondition}
use Rattle.ap_term.specs.WellFormed.{in_range, all_callable, numbered_all, numbered_check, IsClause, IsProgram}
use Rattle.ap_sharing.specs.VarSet.{has, empty, union}
use Rattle.ap_sharing.proofs.Elements.{union-empty}
use Rattle.ap_absunify.specs.declared.states.State.{State}
use Rattle.ap_absunify.specs.declared.states.State.TheVariants.{Unreachable, Reachable}
use Rattle.ap_patterns.specs.Entering.{own}
use Rattle.ap_patterns.proofs.Entering.{own-has}
use Rattle.ap_patterns.specs.declared.entries.Entries.{Entries}
use Rattle.ap_patterns.specs.declared.entries.Entries.TheVariants.{All as every, One, Query}
use Rattle.ap_patterns.specs.Entry.{AsMarked}
use Rattle.ap_patterns.specs.Places.{arguments}
use Rattle.ap_patterns.specs.Table.{predicate_of}
use Rattle.ap_patterns.specs.Given.{Patterns, call_at, after_part, is_analysed, entered, any_pattern}
use Rattle.ap_conditions.specs.FullCondition.{full_condition}
use Rattle.ap_conditions.specs.Simplified.{gives, left}
use Rattle.ap_conditions.specs.Laws.{IsIn}
use Rattle.ap_conditions.proofs.Listed.{full-listed}
use Rattle.ap_cge.specs.Stripped.{stripped}
use Rattle.ap_certify.specs.Written.{is_written}
use Rattle.ap_certify.specs.GroupsGiven.{IsGroupGiven, AreGiven, AreWritten, IsReached, IsGivenAs, IsClauseGiven, AreGroupsGiven}
use Rattle.ap_certify.specs.Certificate.{IsWithin, AreMissingGiven, IsSoundAnnotation}
use Rattle.ap_certify.proofs.Closed.{certified}
use Rattle.ap_fixpoint.proofs.Fixing.{fix-closed}
use Rattle.ap_certify.specs.declared.certified.Scope.{Scope}
use Rattle.ap_certify.specs.declared.certified.Scope.TheVariants.{Every, Of}
use Rattle.ap_fixpoint.specs.Fix.{IsFix}
use Rattle.ap_fixpoint.specs.Formed.{goals_formed}
use Rattle.ap_fixpoint.proofs.Formed.{clause-formed}
use Rattle.ap_udg.specs.Completed.{missing, unknown}
use Rattle.ap_udg.proofs.Annotations.{check_in, program-stripped, annotated-length}
use Rattle.ap_mel.specs.declared.annotations.Kind.{Kind}
use Rattle.ap_mel.specs.declared.annotations.Kind.TheVariants as kind
use Rattle.ap_mel.specs.Mended.{is_given_up, is_none, is_bare, is_settled, is_body_settled, is_clause_settled, is_program_settled}
use Rattle.ap_mel.specs.Made.{IsFirst, Passes, begun, passed, IsMade}
use Rattle.ap_certify.specs.Scopes.{IsScopeOf}
use Rattle.ap_mel.proofs.Mending.{split_not, empty_list, mended-stripped, mended-length, program-stays}

-- ---- lists of checks

in_filtered : (p : Check → Bool) (cs : List Check) (c : Check) → p c ≡ true → IsIn c cs → IsIn c (filter p cs)
in_filtered p [] c h i = absurd i
in_filtered p (d ∷ cs) c h (inl e) = subst (λ b. IsIn c (if b then d ∷ filter p cs else filter p cs)) (sym (ap p (sym e) ∙ h)) (inl e)
in_filtered p (d ∷ cs) c h (inr i) = go (p d) (in_filtered p cs c h i)
  where
    go : (b : Bool) → IsIn c (filter p cs) → IsIn c (if b then d ∷ filter p cs else filter p cs)
    go true k = inr k
    go false k = k

none_in : (c : Check) (cs : List Check) → cs ≡ [] → IsIn c cs → ⊥
none_in c cs e i = let P : List Check → Type 0 = λ xs. IsIn c xs in subst P e i

-- ---- at each group

group_given : (s : State) (cs : List Check) (gs : Trees) → IsTrue (numbered_all 255 gs) → missing s cs gs ≡ [] → IsGroupGiven s cs gs
group_given s cs gs w e c f unwritten = go (gives s c) refl
  where
    go : (b : Bool) → gives s c ≡ b → gives s c ≡ true
    go true h = h
    go false h =
        absurd (none_in c (missing s cs gs) e
        (in_filtered (λ d. not (is_written d cs)) (left s (full_condition gs)) c (not_from_false (is_written c cs) unwritten)
        (in_filtered (λ d. not (gives s d)) (full_condition gs) c (not_from_false (gives s c) h) (full-listed gs c w f))))

group_numbered : (cs : List Check) (gs : Trees) → goals_formed (group cs gs) ≡ true → IsTrue (numbered_all 255 gs)
group_numbered cs gs h = (and_parts (all_callable gs) (numbered_all 255 gs) h).1

settled_none : (bare : Bool) (s : State) (cs : List Check) (gs : Trees) → is_settled bare s (group cs gs) ≡ true → missing s cs gs ≡ []
settled_none bare s cs gs h = empty_list (missing s cs gs) (split_not (is_given_up bare s cs gs) (is_none (missing s cs gs)) h).1

body_given : (bare : Bool) (t : Patterns) (s : State) (ps : List Part) → list_all goals_formed ps ≡ true → is_body_settled bare true t s ps ≡ true → AreGiven t s ps
body_given bare t s [] w h = tt
body_given bare t s (call g ∷ ps) w h = body_given bare t (after_part t s (call g)) ps (and_parts (goals_formed (call g)) (list_all goals_formed ps) w).1 h
body_given bare t s (group cs gs ∷ ps) w h =
    let a = and_parts (goals_formed (group cs gs)) (list_all goals_formed ps) w in
    let r = and_parts (is_settled bare s (group cs gs)) (is_body_settled bare true t (after_part t s (group cs gs)) ps) h in
    (group_given s cs gs (group_numbered cs gs a.0) (settled_none bare s cs gs r.0), body_given bare t (after_part t s (group cs gs)) ps a.1 r.1)

-- ---- where nothing is known

has_own : (x : ℕ) → in_range 255 x ≡ true → has (union (own 255) empty) x ≡ true
has_own x h =
    let r = and_parts (nat_le 1 x) (nat_le x 255) h in
    let low : 1 ≤ x = leb-true 1 x r.0 in
    ap (λ s. has s x) (union-empty (own 255)) ∙ own-has 255 x (omega arith) (leb-true x 255 r.1)

has_any : (x : ℕ) → in_range 255 x ≡ true → has (own 255) x ≡ true
has_any x h =
    let r = and_parts (nat_le 1 x) (nat_le x 255) h in
    let low : 1 ≤ x = leb-true 1 x r.0 in
    own-has 255 x (omega arith) (leb-true x 255 r.1)

gives_nothing : (c : Check) → numbered_check 255 c ≡ true → gives (any_pattern 255) c ≡ false
gives_nothing (Ground x) h = ap not (has_own x h)
gives_nothing (Indep x y) h =
    let r = and_parts (in_range 255 x) (in_range 255 y) h in
    ap (λ b. not ((b && has (own 255) y) || false)) (has_any x r.0) ∙ ap (λ b. not (b || false)) (has_any y r.1)

written_all : (cs : List Check) (gs : Trees) → IsTrue (numbered_all 255 gs) → missing (any_pattern 255) cs gs ≡ [] → (c : Check) → IsInFullCondition gs c → is_written c cs ≡ true
written_all cs gs w e c f = go (is_written c cs) refl
  where
    go : (b : Bool) → is_written c cs ≡ b → is_written c cs ≡ true
    go true h = h
    go false h = absurd (false≢true (sym (gives_nothing c (check_in 255 gs c w f)) ∙ group_given (any_pattern 255) cs gs w e c f h))

body_written : (bare : Bool) (t : Patterns) (ps : List Part) → list_all goals_formed ps ≡ true → is_body_settled bare false t (any_pattern 255) ps ≡ true → AreWritten ps
body_written bare t [] w h = tt
body_written bare t (call g ∷ ps) w h = body_written bare t ps (and_parts (goals_formed (call g)) (list_all goals_formed ps) w).1 h
body_written bare t (group cs gs ∷ ps) w h =
    let a = and_parts (goals_formed (group cs gs)) (list_all goals_formed ps) w in
    let r = and_parts (is_settled bare (any_pattern 255) (group cs gs)) (is_body_settled bare false t (any_pattern 255) ps) h in
    (written_all cs gs (group_numbered cs gs a.0) (settled_none bare (any_pattern 255) cs gs r.0), body_written bare t ps a.1 r.1)

-- ---- clauses and programs

start_by : Bool → Patterns → Clause → State
start_by b t d = if b then entered t d else unknown (call_at t (predicate_of d.head))

clause_given : (k : Kind) (t : Patterns) (c d : Clause) → IsClause d → is_clause_settled k t c d ≡ true → IsClauseGiven t d
unfolding start_by
clause_given k t c d w h = go (is_analysed d) h
  where
    reached : (s : State) → is_body_settled (is_bare k c) false t (unknown s) d.body ≡ true → IsReached s → AreWritten d.body
    reached Unreachable h r = absurd r
    reached (Reachable sh fr) h r = body_written (is_bare k c) t d.body (clause-formed d w) h

    go : (b : Bool) → is_body_settled (is_bare k c) b t (start_by b t d) d.body ≡ true → IsGivenAs b t d
    go true h = body_given (is_bare k c) t (entered t d) d.body (clause-formed d w) h
    go false h = reached (call_at t (predicate_of d.head)) h

pub program-given : (k : Kind) (t : Patterns) (P A : Program) → length P ≡ length A → IsProgram A → is_program_settled k t P A ≡ true → AreGroupsGiven t A
program-given k t [] [] l w h = All-nil (IsClauseGiven t)
program-given k t [] (d ∷ ds) l w h = absurd (omega arith)
program-given k t (c ∷ cs) [] l w h = absurd (omega arith)
program-given k t (c ∷ cs) (d ∷ ds) l w h =
    let r = and_parts (is_clause_settled k t c d) (is_program_settled k t cs ds) h in
    All-cons (IsClauseGiven t) d ds (clause_given k t c d (All-head IsClause d ds w) r.0) (program-given k t cs ds (omega arith) (All-tail IsClause d ds w) r.1)

-- ---- passes

pub first-kept : (k : Kind) (t : Patterns) (P A : Program) → IsFirst k t P A → (length P ≡ length A) × (stripped A ≡ stripped P)
first-kept kind.Mel t P A h = (annotated-length _ t P A h, program-stripped _ t P A h)
first-kept kind.Udg t P A h = (annotated-length _ t P A h, program-stripped _ t P A h)
first-kept kind.None t P A h = (sym (ap length h), ap stripped h)

pub passes-length : (k : Kind) (E : Entries) (P first A : Program) → length P ≡ length first → Passes k E P first A → length P ≡ length A
passes-length k E P first A0 l (begun A e) = l ∙ sym (ap length e)
passes-length k E P first B0 l (passed A t B p f e) = let m = passes-length k E P first A l p in m ∙ sym (mended-length k t P A m) ∙ sym (ap length e)

pub passes-stripped : (k : Kind) (E : Entries) (P first A : Program) → length P ≡ length first → Passes k E P first A → stripped A ≡ stripped first
passes-stripped k E P first A0 l (begun A e) = ap stripped e
passes-stripped k E P first B0 l (passed A t B p f e) = ap stripped e ∙ mended-stripped k t P A (passes-length k E P first A l p) ∙ passes-stripped k E P first A l p

pub made : (k : Kind) (E : Entries) (P first A : Program) (t u : Patterns) → IsFix E P t → IsFirst k t P first → Passes k E P first A → IsFix E A u → length P ≡ length A → is_program_settled k u P A ≡ true
    → IsMade k E P A
made k E P first A t u f one ps g l h = record { written = t; written_is = f; first = first; first_is = one; passes = ps; table = u; table_is = g; last = program-stays k u P A l h }

-- ---- scopes

pub same-within : (A : Program) (E : Entries) (scope : Scope) (goal : Tree) → IsScopeOf E scope → IsWithin A scope goal → IsWithin A (Of E) goal
same-within A E Every goal h k = absurd h
same-within A every (Of every) goal h k = k
same-within A every (Of (One e)) goal h k = absurd h
same-within A every (Of Query) goal h k = absurd h
same-within A (One e) (Of every) goal h k = absurd h
same-within A (One e) (Of (One f)) goal h k = (k.0, k.1 ∙ ap Some (sym h.0), subst (λ m. AsMarked m (arguments goal)) (sym h.1) k.2)
same-within A (One e) (Of Query) goal h k = absurd h
same-within A Query (Of every) goal h k = absurd h
same-within A Query (Of (One e)) goal h k = absurd h
same-within A Query (Of Query) goal h k = k

pub same-given : (A : Program) (E : Entries) (scope : Scope) → IsScopeOf E scope → AreMissingGiven A (Of E) → AreMissingGiven A scope
same-given A E scope h g goal within = g goal (same-within A E scope goal h within)

-- ---- what is answered

pub for_ok : {X F : Type 0} (f : X → Program) (A : Program) (Q : Program → Type 0) → Q A → (r : Result X F) → IfOk r (λ x. f x ≡ A) → IfOk r (λ x. Q (f x))
for_ok f A Q q (Ok x) e = subst Q (sym e) q
for_ok f A Q q (Err x) e = tt

pub sound : (k : Kind) (E : Entries) (P first A : Program) (t : Patterns) → IsFirst k t P first → Passes k E P first A → AreMissingGiven A (Of E) → IsSoundAnnotation P A (Of E)
sound k E P first A t one ps g =
    let kept = first-kept k t P first one in
    record { same = passes-stripped k E P first A kept.0 ps ∙ kept.1; given = g }

pub settled-given : (k : Kind) (E : Entries) (P A : Program) (t : Patterns) → length P ≡ length A → IsProgram A → IsFix E A t → is_program_settled k t P A ≡ true → AreMissingGiven A (Of E)
settled-given k E P A t l w f h = certified E A t w (fix-closed E A t f) (program-given k t P A l w h)
