-- Where a program is entered by any call, groups whose goals have answers change no table: what a predicate with a
-- clause is called with is covered from the first round on.
use Rattle.std.proofs.Common.{◌≡◌, ℕ, zero, suc, ◌⊎◌, inl, inr, Bool, true, false, cond, ◌||◌, List, [], ◌∷◌, ◌++◌, Option, Some, None, append_assoc, refl, ap, ap₂, sym, ◌∙◌, subst}
use Rattle.std.proofs.lemmas.Bool.{false≢true, and_parts, or_cases, or_left, or_right}
use Rattle.std.proofs.lemmas.List.Elements.{filter-append}
use Rattle.std.proofs.Math.Path.{fun_ext}
use Rattle.std.specs.List.{flat_map}
use Rattle.ap_term.specs.Tree.{Tree, Trees, var, int, atom, node, none, more, count_trees}
use Rattle.ap_term.specs.Goals.{Part, call, group, calls, Clause, Program}
use Rattle.ap_cge.specs.Stripped.{stripped_part, stripped_clause, stripped}
use Rattle.ap_absunify.specs.declared.states.State.{State}
use Rattle.ap_absunify.specs.declared.states.State.TheVariants.{Unreachable}
use Rattle.ap_patterns.specs.declared.tables.Predicate.{Predicate}
use Rattle.ap_patterns.specs.declared.slots.Slot.TheVariants.{Call, Success}
use Rattle.ap_patterns.specs.declared.slots.Given.{Given}
use Rattle.ap_patterns.specs.declared.entries.Entries.TheVariants.{All}
use Rattle.ap_patterns.specs.Places.{arguments, call_pattern}
use Rattle.ap_patterns.specs.Table.{predicate_of}
use Rattle.ap_patterns.specs.Covered.{is_covered}
use Rattle.ap_patterns.specs.Given.{Patterns, is_builtin, is_analysed, call_at, success_at, to_call, to_success, any_pattern, anything, entered, after_goal, after_goals, after_part, after_body, given_by_goal, given_in_turn, given_at_fork, given_by_part, given_by_body, given_from, given_anyhow, given_by_all, given_by_any_part, given_unanalysed, given_by_clause, given_by_heads, given}
use Rattle.ap_patterns.proofs.Coverings.{Below, Below-covered, covered-Below}
use Rattle.ap_fixpoint.specs.Answered.{is_reached, is_answered, are_answered, is_body_answered, all_answered}
use Rattle.ap_fixpoint.specs.Fix.{same_slot, first, next, table, united, IsFix}
use Rattle.ap_fixpoint.specs.Uncovered.{is_new, uncovered}
use Rattle.ap_fixpoint.proofs.Members.{Has, Has-left, Has-right, Has-cases, Has-flat_map, Has-from}
use Rattle.ap_fixpoint.proofs.Joins.{AllKept, same_slot-true, same_slot-refl, united_holds, united-same, united-fewer}
use Rattle.ap_fixpoint.proofs.Fixing.{table-kept}
use Rattle.ap_fixpoint.proofs.OpenGoals.{IsOpen, called-open, at_fork-turn}
use Rattle.ap_fixpoint.proofs.Unreached.{uncovered-Has, uncovered-cases, unreached-clause}

-- ---- what a group gives beyond its goals in turn is what they give at the fork

after-calls : (t : Patterns) (s : State) (gs : Trees) (ps : List Part) → after_body t s (calls gs ++ ps) ≡ after_body t (after_goals t s gs) ps
after-calls t s none ps = refl
after-calls t s (more g gs) ps = after-calls t (after_goal t s g) gs ps

after-stripped : (t : Patterns) (s : State) (ps : List Part) → after_body t s ps ≡ after_body t s (flat_map stripped_part ps)
after-stripped t s [] = refl
after-stripped t s (call g ∷ ps) = after-stripped t (after_goal t s g) ps
after-stripped t s (group cs gs ∷ ps) = after-stripped t (after_goals t s gs) ps ∙ sym (after-calls t s gs (flat_map stripped_part ps))

given-calls : (t : Patterns) (s : State) (gs : Trees) (ps : List Part) → given_by_body t s (calls gs ++ ps) ≡ given_in_turn t s gs ++ given_by_body t (after_goals t s gs) ps
given-calls t s none ps = refl
given-calls t s (more g gs) ps =
    ap (λ z. given_by_goal s g ++ z) (given-calls t (after_goal t s g) gs ps)
    ∙ sym (append_assoc (given_by_goal s g) (given_in_turn t (after_goal t s g) gs) (given_by_body t (after_goals t (after_goal t s g) gs) ps))

-- the goals of groups give nothing new in any state
abbrev AreOpen : Patterns → Trees → Type 0
AreOpen t none = Unit {0}
AreOpen t (more g gs) = IsOpen t g × AreOpen t gs

abbrev IsBodyOpen : Patterns → List Part → Type 0
IsBodyOpen t [] = Unit {0}
IsBodyOpen t (call g ∷ ps) = IsBodyOpen t ps
IsBodyOpen t (group cs gs ∷ ps) = AreOpen t gs × IsBodyOpen t ps

fork-open : (t : Patterns) (gs : Trees) → AreOpen t gs → (s : State) → uncovered t (given_at_fork s gs) ≡ []
fork-open t none h s = refl
fork-open t (more g gs) h s = at_fork-turn t g gs h.0 (fork-open t gs h.1) s

body-same : (t : Patterns) (s : State) (ps : List Part) → IsBodyOpen t ps → uncovered t (given_by_body t s ps) ≡ uncovered t (given_by_body t s (flat_map stripped_part ps))
body-same t s [] h = refl
body-same t s (call g ∷ ps) h =
    filter-append (is_new t) (given_by_goal s g) (given_by_body t (after_goal t s g) ps)
    ∙ ap (λ z. uncovered t (given_by_goal s g) ++ z) (body-same t (after_goal t s g) ps h)
    ∙ sym (filter-append (is_new t) (given_by_goal s g) (given_by_body t (after_goal t s g) (flat_map stripped_part ps)))
body-same t s (group cs gs ∷ ps) h =
    let after = after_goals t s gs in
    let turn = given_in_turn t s gs in
    let rest = flat_map stripped_part ps in
    filter-append (is_new t) (given_at_fork s gs ++ turn) (given_by_body t after ps)
    ∙ ap₂ (λ a b. a ++ b) (filter-append (is_new t) (given_at_fork s gs) turn ∙ ap (λ z. z ++ uncovered t turn) (fork-open t gs h.0 s)) (body-same t after ps h.1)
    ∙ sym (filter-append (is_new t) turn (given_by_body t after rest)) ∙ ap (uncovered t) (sym (given-calls t s gs rest))

from-same : (t : Patterns) (s : State) (c : Clause) → IsBodyOpen t c.body → uncovered t (given_from t s c) ≡ uncovered t (given_from t s (stripped_clause c))
from-same t s c h =
    let ps = flat_map stripped_part c.body in
    filter-append (is_new t) (given_by_body t s c.body) (to_success (predicate_of c.head) (call_pattern (after_body t s c.body) c.head))
    ∙ ap₂ (λ a b. a ++ b) (body-same t s c.body h) (ap (λ z. uncovered t (to_success (predicate_of c.head) (call_pattern z c.head))) (after-stripped t s c.body))
    ∙ sym (filter-append (is_new t) (given_by_body t s ps) (to_success (predicate_of c.head) (call_pattern (after_body t s ps) c.head)))

anyhow-calls : (s : State) (gs : Trees) (ps : List Part) → flat_map (given_by_any_part s) (calls gs ++ ps) ≡ given_by_all s gs ++ flat_map (given_by_any_part s) ps
anyhow-calls s none ps = refl
anyhow-calls s (more g gs) ps =
    ap (λ z. given_anyhow s g ++ z) (anyhow-calls s gs ps) ∙ sym (append_assoc (given_anyhow s g) (given_by_all s gs) (flat_map (given_by_any_part s) ps))

anyhow-same : (s : State) (ps : List Part) → flat_map (given_by_any_part s) ps ≡ flat_map (given_by_any_part s) (flat_map stripped_part ps)
anyhow-same s [] = refl
anyhow-same s (call g ∷ ps) = ap (λ z. given_anyhow s g ++ z) (anyhow-same s ps)
anyhow-same s (group cs gs ∷ ps) = ap (λ z. given_by_all s gs ++ z) (anyhow-same s ps) ∙ sym (anyhow-calls s gs (flat_map stripped_part ps))

unanalysed-same : (s : State) (c : Clause) → given_unanalysed s c ≡ given_unanalysed s (stripped_clause c)
unanalysed-same s c = ap (λ z. z ++ to_success (predicate_of c.head) (anything s c.head)) (anyhow-same s c.body)

clause-same : (t : Patterns) (c : Clause) → IsBodyOpen t c.body → uncovered t (given_by_clause t c) ≡ uncovered t (given_by_clause t (stripped_clause c))
clause-same t c h = go (is_analysed c)
  where
    go : (b : Bool) → uncovered t (cond b (given_from t (entered t c) c) (given_unanalysed (call_at t (predicate_of c.head)) c))
        ≡ uncovered t (cond b (given_from t (entered t c) (stripped_clause c)) (given_unanalysed (call_at t (predicate_of c.head)) (stripped_clause c)))
    go true = from-same t (entered t c) c h
    go false = ap (uncovered t) (unanalysed-same (call_at t (predicate_of c.head)) c)

-- ---- a round turns on what isn't covered alone

abbrev reduced : Program → Patterns → List Given
reduced A t = given_by_heads A ++ flat_map (λ c. uncovered t (given_by_clause t c)) A

reduced-only : (A : Program) (t : Patterns) (g : Given) → Has g (reduced A t) → Has g (given All A t)
reduced-only A t g h =
    elim (Has-cases g (given_by_heads A) (flat_map (λ c. uncovered t (given_by_clause t c)) A) h) [
      | inl i ↦ Has-left g (given_by_heads A) (flat_map (given_by_clause t) A) i
      | inr i ↦ (let r = Has-from (λ c. uncovered t (given_by_clause t c)) g A i in
          Has-right g (given_by_heads A) (flat_map (given_by_clause t) A) (Has-flat_map (given_by_clause t) g r.0 A r.1 (uncovered-Has t (given_by_clause t r.0) g r.2)))
    ]

reduced-enough : (A : Program) (t : Patterns) (g : Given) → Has g (given All A t) → Has g (reduced A t) ⊎ Below g.pattern (t g.slot)
reduced-enough A t g h =
    elim (Has-cases g (given_by_heads A) (flat_map (given_by_clause t) A) h) [
      | inl i ↦ inl (Has-left g (given_by_heads A) (flat_map (λ c. uncovered t (given_by_clause t c)) A) i)
      | inr i ↦ by_clause (Has-from (given_by_clause t) g A i)
    ]
  where
    by_clause : (c : Clause) × Has c A × Has g (given_by_clause t c) → Has g (reduced A t) ⊎ Below g.pattern (t g.slot)
    by_clause r =
        elim (uncovered-cases t (given_by_clause t r.0) g r.2) [
          | inl k ↦ inl (Has-right g (given_by_heads A) (flat_map (λ c. uncovered t (given_by_clause t c)) A) (Has-flat_map (λ c. uncovered t (given_by_clause t c)) g r.0 A r.1 k))
          | inr k ↦ inr (Below-covered g.pattern (t g.slot) k)
        ]

reduced-round : (A : Program) (t : Patterns) → AllKept t → united (reduced A t) t ≡ next All A t
reduced-round A t k = fun_ext (λ x. united-fewer (reduced A t) (given All A t) t x (k x) (reduced-only A t) (reduced-enough A t))

heads-same : (A : Program) → given_by_heads A ≡ given_by_heads (stripped A)
heads-same [] = refl
heads-same (c ∷ cs) = ap (λ z. to_call (predicate_of c.head) (any_pattern (count_trees (arguments c.head))) ++ z) (heads-same cs)

-- each clause gives as much without its groups
abbrev AreSame : Patterns → Program → Type 0
AreSame t [] = Unit {0}
AreSame t (c ∷ cs) = (uncovered t (given_by_clause t c) ≡ uncovered t (given_by_clause t (stripped_clause c))) × AreSame t cs

clauses-same : (t : Patterns) (A : Program) → AreSame t A → flat_map (λ c. uncovered t (given_by_clause t c)) A ≡ flat_map (λ c. uncovered t (given_by_clause t c)) (stripped A)
clauses-same t [] h = refl
clauses-same t (c ∷ cs) h = ap₂ (λ a b. a ++ b) h.0 (clauses-same t cs h.1)

round-same : (A : Program) (t : Patterns) → AllKept t → AreSame t A → next All A t ≡ next All (stripped A) t
round-same A t k h =
    sym (reduced-round A t k) ∙ ap (λ gs. united gs t) (ap₂ (λ a b. a ++ b) (heads-same A) (clauses-same t A h)) ∙ reduced-round (stripped A) t k

-- ---- predicates that have a clause

-- whether a clause's head is of the predicate
abbrev is_head : Predicate → Option Predicate → Bool
is_head p None = false
is_head p (Some q) = same_slot (Call q) (Call p)

abbrev has_head : Predicate → Program → Bool
has_head p [] = false
has_head p (c ∷ cs) = is_head p (predicate_of c.head) || has_head p cs

call_same : (q p : Predicate) → Call q ≡ Call p → q ≡ p
call_same q p e = cc

some_same : (q p : Predicate) → Some q ≡ Some p → q ≡ p
some_same q p e = cc

head-is : (p : Predicate) (q : Option Predicate) → is_head p q ≡ true → q ≡ Some p
head-is p None h = absurd (false≢true h)
head-is p (Some q) h = ap Some (call_same q p (same_slot-true (Call q) (Call p) h))

arity-of : (g : Tree) (p : Predicate) → predicate_of g ≡ Some p → count_trees (arguments g) ≡ p.arity
arity-of (var x) p e = absurd (cc)
arity-of (int z) p e = absurd (cc)
arity-of (atom a) p e = ap (λ (q : Predicate). q.arity) (some_same (record { name = a; arity = 0 }) p e)
arity-of (node a ts) p e = ap (λ (q : Predicate). q.arity) (some_same (record { name = a; arity = count_trees ts }) p e)

abbrev called_anyhow : Predicate → Given
called_anyhow p = record { slot = Call p; pattern = any_pattern p.arity }

heads-given : (p : Predicate) (A : Program) → has_head p A ≡ true → Has (called_anyhow p) (given_by_heads A)
heads-given p [] h = absurd (false≢true h)
heads-given p (c ∷ cs) h = elim (or_cases (is_head p (predicate_of c.head)) (has_head p cs) h) [
  | inl i ↦ Has-left (called_anyhow p) (to_call (predicate_of c.head) (any_pattern (count_trees (arguments c.head)))) (given_by_heads cs) (here i)
  | inr i ↦ Has-right (called_anyhow p) (to_call (predicate_of c.head) (any_pattern (count_trees (arguments c.head)))) (given_by_heads cs) (heads-given p cs i)
]
  where
    here : is_head p (predicate_of c.head) ≡ true → Has (called_anyhow p) (to_call (predicate_of c.head) (any_pattern (count_trees (arguments c.head))))
    here i =
        let e = head-is p (predicate_of c.head) i in
        subst (λ q. Has (called_anyhow p) (to_call q (any_pattern (count_trees (arguments c.head))))) (sym e)
        (subst (λ n. Has (called_anyhow p) (to_call (Some p) (any_pattern n))) (sym (arity-of c.head p e)) (inl refl))

-- from the first round on their calls are covered, whatever is known of the arguments
headed-open : (A : Program) (n : ℕ) (g : Tree) (p : Predicate) → predicate_of g ≡ Some p → has_head p A ≡ true → IsOpen (table All A (suc n)) g
headed-open A n g p e h =
    let t = table All A n in
    let now = table All A (suc n) in
    let below : Below (any_pattern p.arity) (now (Call p)) =
    united_holds (given All A t) t (called_anyhow p) (Has-left (called_anyhow p) (given_by_heads A) (flat_map (given_by_clause t) A) (heads-given p A h)) in
    called-open now g (now (Call p)) (ap (call_at now) e)
    (ap (λ m. is_covered (any_pattern m) (now (Call p))) (arity-of g p e) ∙ covered-Below (any_pattern p.arity) (now (Call p)) below)

-- ---- others have no answers

abbrev AreCalls : List Given → Type 0
AreCalls gs = (g : Given) → Has g gs → (p : Predicate) → g.slot ≡ Success p → ⊥

calls-append : (xs ys : List Given) → AreCalls xs → AreCalls ys → AreCalls (xs ++ ys)
calls-append xs ys h k g i p e = elim (Has-cases g xs ys i) [ inl j ↦ h g j p e | inr j ↦ k g j p e ]

none-calls : AreCalls []
none-calls g i p e = absurd i

apart : (q p : Predicate) → Call q ≡ Success p → ⊥
apart q p e = cc

one-call : (q : Predicate) (s : State) → AreCalls (to_call (Some q) s)
one-call q s g (inl i) p e = apart q p (sym (ap (λ z. z.slot) i) ∙ e)
one-call q s g (inr i) p e = absurd i

to_call-calls : (q : Option Predicate) (s : State) → AreCalls (to_call q s)
to_call-calls None s = none-calls
to_call-calls (Some q) s = one-call q s

goal-calls : (s : State) (h : Tree) → AreCalls (given_by_goal s h)
goal-calls s h = go (is_builtin h)
  where
    go : (b : Bool) → AreCalls (cond b [] (to_call (predicate_of h) (call_pattern s h)))
    go true = none-calls
    go false = to_call-calls (predicate_of h) (call_pattern s h)

fork-calls : (s : State) (gs : Trees) → AreCalls (given_at_fork s gs)
fork-calls s none = none-calls
fork-calls s (more h gs) = calls-append (given_by_goal s h) (given_at_fork s gs) (goal-calls s h) (fork-calls s gs)

turn-calls : (t : Patterns) (s : State) (gs : Trees) → AreCalls (given_in_turn t s gs)
turn-calls t s none = none-calls
turn-calls t s (more h gs) = calls-append (given_by_goal s h) (given_in_turn t (after_goal t s h) gs) (goal-calls s h) (turn-calls t (after_goal t s h) gs)

part-calls : (t : Patterns) (s : State) (q : Part) → AreCalls (given_by_part t s q)
part-calls t s (call h) = goal-calls s h
part-calls t s (group cs gs) = calls-append (given_at_fork s gs) (given_in_turn t s gs) (fork-calls s gs) (turn-calls t s gs)

body-calls : (t : Patterns) (s : State) (ps : List Part) → AreCalls (given_by_body t s ps)
body-calls t s [] = none-calls
body-calls t s (q ∷ ps) = calls-append (given_by_part t s q) (given_by_body t (after_part t s q) ps) (part-calls t s q) (body-calls t (after_part t s q) ps)

anyhow-calls_only : (s : State) (h : Tree) → AreCalls (given_anyhow s h)
anyhow-calls_only s h = go (is_builtin h)
  where
    go : (b : Bool) → AreCalls (cond b [] (to_call (predicate_of h) (anything s h)))
    go true = none-calls
    go false = to_call-calls (predicate_of h) (anything s h)

all-calls : (s : State) (gs : Trees) → AreCalls (given_by_all s gs)
all-calls s none = none-calls
all-calls s (more h gs) = calls-append (given_anyhow s h) (given_by_all s gs) (anyhow-calls_only s h) (all-calls s gs)

any_part-calls : (s : State) (q : Part) → AreCalls (given_by_any_part s q)
any_part-calls s (call h) = anyhow-calls_only s h
any_part-calls s (group cs gs) = all-calls s gs

any_parts-calls : (s : State) (ps : List Part) → AreCalls (flat_map (given_by_any_part s) ps)
any_parts-calls s [] = none-calls
any_parts-calls s (q ∷ ps) = calls-append (given_by_any_part s q) (flat_map (given_by_any_part s) ps) (any_part-calls s q) (any_parts-calls s ps)

heads-calls : (A : Program) → AreCalls (given_by_heads A)
heads-calls [] = none-calls
heads-calls (c ∷ cs) =
    calls-append (to_call (predicate_of c.head) (any_pattern (count_trees (arguments c.head)))) (given_by_heads cs)
    (to_call-calls (predicate_of c.head) (any_pattern (count_trees (arguments c.head)))) (heads-calls cs)

success_same : (q p : Predicate) → Success q ≡ Success p → q ≡ p
success_same q p e = cc

success-head : (q : Option Predicate) (s : State) (g : Given) (p : Predicate) → Has g (to_success q s) → g.slot ≡ Success p → q ≡ Some p
success-head None s g p h e = absurd h
success-head (Some q) s g p (inl i) e = ap Some (success_same q p (sym (ap (λ z. z.slot) i) ∙ e))
success-head (Some q) s g p (inr i) e = absurd i

clause-head : (t : Patterns) (c : Clause) (g : Given) (p : Predicate) → Has g (given_by_clause t c) → g.slot ≡ Success p → predicate_of c.head ≡ Some p
clause-head t c g p h e = go (is_analysed c) h
  where
    part : (xs : List Given) (s : State) → AreCalls xs → Has g (xs ++ to_success (predicate_of c.head) s) → predicate_of c.head ≡ Some p
    part xs s k i = elim (Has-cases g xs (to_success (predicate_of c.head) s) i) [ inl j ↦ absurd (k g j p e) | inr j ↦ success-head (predicate_of c.head) s g p j e ]

    go : (b : Bool) → Has g (cond b (given_from t (entered t c) c) (given_unanalysed (call_at t (predicate_of c.head)) c)) → predicate_of c.head ≡ Some p
    go true i = part (given_by_body t (entered t c) c.body) (call_pattern (after_body t (entered t c) c.body) c.head) (body-calls t (entered t c) c.body) i
    go false i =
        part (flat_map (given_by_any_part (call_at t (predicate_of c.head))) c.body) (anything (call_at t (predicate_of c.head)) c.head) (any_parts-calls (call_at t (predicate_of c.head)) c.body) i

has_head-from : (p : Predicate) (A : Program) (c : Clause) → Has c A → predicate_of c.head ≡ Some p → has_head p A ≡ true
has_head-from p [] c h e = absurd h
has_head-from p (d ∷ ds) c (inl i) e =
    or_left (is_head p (predicate_of d.head)) (has_head p ds) (ap (is_head p) (ap (λ z. predicate_of z.head) (sym i) ∙ e) ∙ same_slot-refl (Call p))
has_head-from p (d ∷ ds) c (inr i) e = or_right (is_head p (predicate_of d.head)) (has_head p ds) (has_head-from p ds c i e)

headless : (A : Program) (p : Predicate) → has_head p A ≡ false → (n : ℕ) → table All A n (Success p) ≡ Unreachable
headless A p h zero = refl
headless A p h (suc n) =
    let t = table All A n in
    united-same (given All A t) t (Success p) (table-kept All A n (Success p)) (λ g i e. absurd (none_given g i (same_slot-true g.slot (Success p) e))) ∙ headless A p h n
  where
    none_given : (g : Given) → Has g (given All A (table All A n)) → g.slot ≡ Success p → ⊥
    none_given g i e =
        elim (Has-cases g (given_by_heads A) (flat_map (given_by_clause (table All A n)) A) i) [
          | inl j ↦ heads-calls A g j p e
          | inr j ↦ (let r = Has-from (given_by_clause (table All A n)) g A j in
              false≢true (sym h ∙ has_head-from p A r.0 r.1 (clause-head (table All A n) r.0 g p r.2 e)))
        ]

-- ---- so the goals of groups are open from the first round on

goal-headed : (A : Program) (n : ℕ) (g : Tree) → is_answered (table All A n) g ≡ true → (p : Predicate) × (predicate_of g ≡ Some p) × (has_head p A ≡ true)
goal-headed A n g h = go (predicate_of g) refl h
  where
    go : (q : Option Predicate) → predicate_of g ≡ q → is_reached (success_at (table All A n) q) ≡ true → (p : Predicate) × (predicate_of g ≡ Some p) × (has_head p A ≡ true)
    go None e i = absurd (false≢true i)
    go (Some p) e i = (p, e, decided (has_head p A) refl)
      where
        decided : (b : Bool) → has_head p A ≡ b → b ≡ true
        decided true k = refl
        decided false k = absurd (false≢true (ap is_reached (sym (headless A p k n)) ∙ i))

goals-open : (A : Program) (n m : ℕ) (gs : Trees) → are_answered (table All A n) gs ≡ true → AreOpen (table All A (suc m)) gs
goals-open A n m none h = tt
goals-open A n m (more g gs) h =
    let r = and_parts (is_answered (table All A n) g) (are_answered (table All A n) gs) h in
    let p = goal-headed A n g r.0 in
    (headed-open A m g p.0 p.1 p.2, goals-open A n m gs r.1)

body-open : (A : Program) (n m : ℕ) (ps : List Part) → is_body_answered (table All A n) ps ≡ true → IsBodyOpen (table All A (suc m)) ps
body-open A n m [] h = tt
body-open A n m (call g ∷ ps) h = body-open A n m ps h
body-open A n m (group cs gs ∷ ps) h =
    let r = and_parts (are_answered (table All A n) gs) (is_body_answered (table All A n) ps) h in
    (goals-open A n m gs r.0, body-open A n m ps r.1)

later-same : (B : Program) (n m : ℕ) (A : Program) → all_answered (table All B n) A ≡ true → AreSame (table All B (suc m)) A
later-same B n m [] h = tt
later-same B n m (c ∷ cs) h =
    let r = and_parts (is_body_answered (table All B n) c.body) (all_answered (table All B n) cs) h in
    (clause-same (table All B (suc m)) c (body-open B n m c.body r.0), later-same B n m cs r.1)

first-same : (A : Program) → AreSame first A
first-same [] = tt
first-same (c ∷ cs) = (unreached-clause first c (never (predicate_of c.head)) ∙ sym (unreached-clause first (stripped_clause c) (never (predicate_of c.head))), first-same cs)
  where
    never : (q : Option Predicate) → call_at first q ≡ Unreachable
    never None = refl
    never (Some q) = refl

table-same : (A : Program) (n : ℕ) → all_answered (table All (stripped A) n) A ≡ true → (m : ℕ) → table All A m ≡ table All (stripped A) m
table-same A n h zero = refl
table-same A n h (suc m) = ap (next All A) (table-same A n h m) ∙ round-same A (table All (stripped A) m) (table-kept All (stripped A) m) (each m)
  where
    each : (k : ℕ) → AreSame (table All (stripped A) k) A
    each zero = first-same A
    each (suc k) = later-same (stripped A) n k A h

pub fix-same : (A : Program) (t : Patterns) → all_answered t A ≡ true → IsFix All (stripped A) t → IsFix All A t
fix-same A t h f =
    let same : (m : ℕ) → table All A m ≡ table All (stripped A) m = table-same A f.round (subst (λ u. all_answered u A ≡ true) (sym f.reached) h) in
    record {
      round = f.round;
      reached = same f.round ∙ f.reached;
      last = ap (next All A) (sym f.reached ∙ sym (same f.round)) ∙ same (suc f.round) ∙ ap (next All (stripped A)) f.reached ∙ f.last;
      first_one = λ m i. same m ∙ f.first_one m (sym (same (suc m)) ∙ i ∙ same m);
    }
