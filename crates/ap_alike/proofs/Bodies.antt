-- What bodies, clauses and programs that are alike give to a table is the same.
use Rattle.std.proofs.Common.{◌≡◌, ℕ, zero, suc, ◌+◌, nat_le, Bool, true, false, if◌then◌else◌, List, [], ◌∷◌, ◌++◌, refl, ap, ap₂, sym, ◌∙◌}
use Rattle.std.specs.List.{flat_map}
use Rattle.ap_term.specs.Tree.{Tree, Trees, none, more, count_trees}
use Rattle.ap_term.specs.Goals.{Part, call, group, Clause, Program}
use Rattle.ap_absunify.specs.declared.states.State.{State}
use Rattle.ap_patterns.specs.declared.slots.Given.{Given}
use Rattle.ap_patterns.specs.declared.entries.Entries.{Entries}
use Rattle.ap_patterns.specs.declared.entries.Entries.TheVariants.{All, One, Query}
use Rattle.ap_patterns.specs.Entering.{enter}
use Rattle.ap_patterns.specs.Places.{arguments, call_pattern}
use Rattle.ap_patterns.specs.Table.{predicate_of}
use Rattle.ap_patterns.specs.Given.{Patterns, call_at, to_call, to_success, given_by_goal, after_goal, anything, any_pattern, after_goals, given_in_turn, given_at_fork, after_part, given_by_part, after_body, given_by_body, given_by_all, given_by_any_part, given_by_clause, given_by_heads, given_by_entries, given}
use Rattle.ap_fixpoint.specs.Fix.{united, next, table, IsFix}
use Rattle.ap_alike.specs.Alike.{AreAlikeGoals, IsAlikePart, AreAlikeBodies, IsAlikeClause, AreAlike}
use Rattle.ap_alike.proofs.Goals.{given-goal, after-goal, anyhow-goal}

-- ---- goals one after another

after-goals : (t : Patterns) (s : State) (gs hs : Trees) → AreAlikeGoals gs hs → after_goals t s hs ≡ after_goals t s gs
after-goals t s none none w = refl
after-goals t s none (more h hs) w = absurd w
after-goals t s (more g gs) none w = absurd w
after-goals t s (more g gs) (more h hs) w = ap (λ r. after_goals t r hs) (after-goal t s g h w.0) ∙ after-goals t (after_goal t s g) gs hs w.1

given-in_turn : (t : Patterns) (s : State) (gs hs : Trees) → AreAlikeGoals gs hs → given_in_turn t s hs ≡ given_in_turn t s gs
given-in_turn t s none none w = refl
given-in_turn t s none (more h hs) w = absurd w
given-in_turn t s (more g gs) none w = absurd w
given-in_turn t s (more g gs) (more h hs) w =
    ap₂ (λ a r. a ++ given_in_turn t r hs) (given-goal s g h w.0) (after-goal t s g h w.0)
    ∙ ap (λ xs. given_by_goal s g ++ xs) (given-in_turn t (after_goal t s g) gs hs w.1)

given-at_fork : (s : State) (gs hs : Trees) → AreAlikeGoals gs hs → given_at_fork s hs ≡ given_at_fork s gs
given-at_fork s none none w = refl
given-at_fork s none (more h hs) w = absurd w
given-at_fork s (more g gs) none w = absurd w
given-at_fork s (more g gs) (more h hs) w = ap₂ (λ a b. a ++ b) (given-goal s g h w.0) (given-at_fork s gs hs w.1)

given-by_all : (s : State) (gs hs : Trees) → AreAlikeGoals gs hs → given_by_all s hs ≡ given_by_all s gs
given-by_all s none none w = refl
given-by_all s none (more h hs) w = absurd w
given-by_all s (more g gs) none w = absurd w
given-by_all s (more g gs) (more h hs) w = ap₂ (λ a b. a ++ b) (anyhow-goal s g h w.0) (given-by_all s gs hs w.1)

-- ---- parts and bodies

pub after-part : (t : Patterns) (s : State) (p q : Part) → IsAlikePart p q → after_part t s q ≡ after_part t s p
after-part t s (call g) (call h) w = after-goal t s g h w
after-part t s (call g) (group ds hs) w = absurd w
after-part t s (group cs gs) (call h) w = absurd w
after-part t s (group cs gs) (group ds hs) w = after-goals t s gs hs w.1

given-part : (t : Patterns) (s : State) (p q : Part) → IsAlikePart p q → given_by_part t s q ≡ given_by_part t s p
given-part t s (call g) (call h) w = given-goal s g h w
given-part t s (call g) (group ds hs) w = absurd w
given-part t s (group cs gs) (call h) w = absurd w
given-part t s (group cs gs) (group ds hs) w = ap₂ (λ a b. a ++ b) (given-at_fork s gs hs w.1) (given-in_turn t s gs hs w.1)

given-any : (s : State) (p q : Part) → IsAlikePart p q → given_by_any_part s q ≡ given_by_any_part s p
given-any s (call g) (call h) w = anyhow-goal s g h w
given-any s (call g) (group ds hs) w = absurd w
given-any s (group cs gs) (call h) w = absurd w
given-any s (group cs gs) (group ds hs) w = given-by_all s gs hs w.1

after-body : (t : Patterns) (s : State) (ps qs : List Part) → AreAlikeBodies ps qs → after_body t s qs ≡ after_body t s ps
after-body t s [] [] w = refl
after-body t s [] (q ∷ qs) w = absurd w
after-body t s (p ∷ ps) [] w = absurd w
after-body t s (p ∷ ps) (q ∷ qs) w = ap (λ r. after_body t r qs) (after-part t s p q w.0) ∙ after-body t (after_part t s p) ps qs w.1

given-body : (t : Patterns) (s : State) (ps qs : List Part) → AreAlikeBodies ps qs → given_by_body t s qs ≡ given_by_body t s ps
given-body t s [] [] w = refl
given-body t s [] (q ∷ qs) w = absurd w
given-body t s (p ∷ ps) [] w = absurd w
given-body t s (p ∷ ps) (q ∷ qs) w =
    ap₂ (λ a r. a ++ given_by_body t r qs) (given-part t s p q w.0) (after-part t s p q w.0)
    ∙ ap (λ xs. given_by_part t s p ++ xs) (given-body t (after_part t s p) ps qs w.1)

given-any_body : (s : State) (ps qs : List Part) → AreAlikeBodies ps qs → flat_map (given_by_any_part s) qs ≡ flat_map (given_by_any_part s) ps
given-any_body s [] [] w = refl
given-any_body s [] (q ∷ qs) w = absurd w
given-any_body s (p ∷ ps) [] w = absurd w
given-any_body s (p ∷ ps) (q ∷ qs) w = ap₂ (λ a b. a ++ b) (given-any s p q w.0) (given-any_body s ps qs w.1)

-- ---- clauses

-- what a clause gives, by its head, how many variables it has and its body
given_of : Patterns → Tree → ℕ → List Part → List Given
given_of t head vars body =
    let s = enter vars head (call_at t (predicate_of head)) in
    if nat_le (vars + count_trees (arguments head)) 64
    then given_by_body t s body ++ to_success (predicate_of head) (call_pattern (after_body t s body) head)
    else flat_map (given_by_any_part (call_at t (predicate_of head))) body ++ to_success (predicate_of head) (anything (call_at t (predicate_of head)) head)

given-clause : (t : Patterns) (c d : Clause) → IsAlikeClause c d → given_by_clause t d ≡ given_by_clause t c
unfolding given_of
given-clause t c d w =
    ap (λ head. given_of t head d.vars d.body) w.head ∙ ap (λ vars. given_of t c.head vars d.body) w.vars ∙ bodies (is_few c)
  where
    is_few : Clause → Bool
    is_few e = nat_le (e.vars + count_trees (arguments e.head)) 64

    s : State
    s = enter c.vars c.head (call_at t (predicate_of c.head))

    bodies : (b : Bool)
        → (if b then given_by_body t s d.body ++ to_success (predicate_of c.head) (call_pattern (after_body t s d.body) c.head)
        else flat_map (given_by_any_part (call_at t (predicate_of c.head))) d.body ++ to_success (predicate_of c.head) (anything (call_at t (predicate_of c.head)) c.head))
        ≡ (if b then given_by_body t s c.body ++ to_success (predicate_of c.head) (call_pattern (after_body t s c.body) c.head)
        else flat_map (given_by_any_part (call_at t (predicate_of c.head))) c.body ++ to_success (predicate_of c.head) (anything (call_at t (predicate_of c.head)) c.head))
    bodies true =
        ap₂ (λ a r. a ++ to_success (predicate_of c.head) (call_pattern r c.head)) (given-body t s c.body d.body w.body) (after-body t s c.body d.body w.body)
    bodies false =
        ap (λ a. a ++ to_success (predicate_of c.head) (anything (call_at t (predicate_of c.head)) c.head)) (given-any_body (call_at t (predicate_of c.head)) c.body d.body w.body)

-- ---- programs

given-clauses : (t : Patterns) (P Q : Program) → AreAlike P Q → flat_map (given_by_clause t) Q ≡ flat_map (given_by_clause t) P
given-clauses t [] [] w = refl
given-clauses t [] (d ∷ ds) w = absurd w
given-clauses t (c ∷ cs) [] w = absurd w
given-clauses t (c ∷ cs) (d ∷ ds) w = ap₂ (λ a b. a ++ b) (given-clause t c d w.0) (given-clauses t cs ds w.1)

given-heads : (P Q : Program) → AreAlike P Q → given_by_heads Q ≡ given_by_heads P
given-heads [] [] w = refl
given-heads [] (d ∷ ds) w = absurd w
given-heads (c ∷ cs) [] w = absurd w
given-heads (c ∷ cs) (d ∷ ds) w =
    ap₂ (λ head xs. to_call (predicate_of head) (any_pattern (count_trees (arguments head))) ++ xs) w.0.head (given-heads cs ds w.1)

given-entries : (E : Entries) (P Q : Program) → AreAlike P Q → given_by_entries E Q ≡ given_by_entries E P
given-entries All P Q w = given-heads P Q w
given-entries (One e) P Q w = refl
given-entries Query P Q w = refl

given-alike : (E : Entries) (t : Patterns) (P Q : Program) → AreAlike P Q → given E Q t ≡ given E P t
given-alike E t P Q w = ap₂ (λ a b. a ++ b) (given-entries E P Q w) (given-clauses t P Q w)

next-alike : (E : Entries) (t : Patterns) (P Q : Program) → AreAlike P Q → next E Q t ≡ next E P t
next-alike E t P Q w = ap (λ gs. united gs t) (given-alike E t P Q w)

table-alike : (E : Entries) (P Q : Program) (n : ℕ) → AreAlike P Q → table E Q n ≡ table E P n
table-alike E P Q zero w = refl
table-alike E P Q (suc n) w = ap (next E Q) (table-alike E P Q n w) ∙ next-alike E (table E P n) P Q w

pub fix-alike : (E : Entries) (P Q : Program) (t : Patterns) → AreAlike P Q → IsFix E P t → IsFix E Q t
fix-alike E P Q t w f = record {
  round = f.round;
  reached = table-alike E P Q f.round w ∙ f.reached;
  last = next-alike E t P Q w ∙ f.last;
  first_one = λ m e.
      let same : table E Q m ≡ table E P m = table-alike E P Q m w in
      same ∙ f.first_one m (sym (next-alike E (table E P m) P Q w) ∙ ap (next E Q) (sym same) ∙ e ∙ same);
}
