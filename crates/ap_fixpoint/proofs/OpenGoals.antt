-- What is said of the arguments of a goal is covered where the goal is called with anything already.
use Rattle.std.proofs.Common.{◌≡◌, ℕ, zero, suc, ◌-◌, ◌<◌, ◌≤◌, Bool, true, false, cond, nat_eq, List, [], ◌∷◌, Option, Some, None, map, append_assoc, refl, ap, sym, ◌∙◌, subst, arith}
use Rattle.std.proofs.lemmas.Bool.{false≢true, or_left, or_right}
use Rattle.ap_term.specs.declared.clauses.Check.{Check}
use Rattle.ap_term.specs.Tree.{Tree, Trees, atom, more, count_trees}
use Rattle.ap_term.specs.Goals.{Part, group}
use Rattle.ap_sharing.specs.VarSet.{has, empty, meets, within}
use Rattle.ap_sharing.specs.Sets.{listed, sets_of, all_of, too_many}
use Rattle.ap_sharing.specs.Share.{Share, dropped, widen, norm}
use Rattle.ap_sharing.proofs.Elements.{clash, same_test, has-empty, meets-none, within-made}
use Rattle.ap_sharing.proofs.Lists.{Elem-listed, Elem-map, listed-join}
use Rattle.ap_absunify.specs.TermSets.{var_set}
use Rattle.ap_absunify.specs.declared.states.State.{State}
use Rattle.ap_absunify.specs.declared.states.State.TheVariants.{Unreachable, Reachable}
use Rattle.ap_absunify.specs.AfterBuiltin.{after_builtin}
use Rattle.ap_patterns.specs.declared.tables.Predicate.{Predicate}
use Rattle.ap_patterns.specs.declared.slots.Slot.TheVariants.{Call, Success}
use Rattle.ap_patterns.specs.Places.{arguments, argument, argument_sets, places, call_share, call_pattern}
use Rattle.ap_patterns.specs.Entering.{own}
use Rattle.ap_patterns.specs.AfterCall.{after_call}
use Rattle.ap_patterns.specs.Table.{predicate_of}
use Rattle.ap_patterns.specs.Covered.{is_covered}
use Rattle.ap_patterns.specs.Given.{Patterns, is_builtin, call_at, success_at, to_call, to_success, any_pattern, after_goal, after_goals, after_part, after_body, given_by_goal, given_at_fork, given_in_turn, given_by_part, given_by_body}
use Rattle.ap_patterns.proofs.CallPatterns.{has-places}
use Rattle.ap_patterns.proofs.Coverings.{Below, Below-covered, covered-Below}
use Rattle.ap_patterns.proofs.Entering.{own-has, argument_low, argument_high}
use Rattle.ap_fixpoint.specs.Uncovered.{uncovered, given_on}
use Rattle.ap_fixpoint.proofs.Order.{filtered, member_within, union_least, Below_trans}
use Rattle.ap_fixpoint.proofs.Unreached.{nothing-append, covered-nothing, after_goals-unreached, unreached_on}

-- ---- what a call pattern speaks of

none-at : (s : ℕ) (ts : Trees) (j : ℕ) → argument 1 ts j ≡ atom 0 → has (places 1 s (argument_sets ts)) j ≡ true → ⊥
none-at s ts j e h =
    clash (meets s empty) (ap (λ z. meets s (var_set z)) (sym e) ∙ sym (has-places 1 s ts j) ∙ h) (meets-none s empty (λ x a b. clash (has empty x) b (has-empty x)))

places-own : (s : ℕ) (ts : Trees) → within (places 1 s (argument_sets ts)) (own (count_trees ts)) ≡ true
places-own s ts = within-made (places 1 s (argument_sets ts)) (own (count_trees ts)) (λ j h. own-has (count_trees ts) j (low j h) (high j h (j - count_trees ts) refl))
  where
    low : (j : ℕ) → has (places 1 s (argument_sets ts)) j ≡ true → 0 < j
    low zero h = absurd (none-at s ts 0 (argument_low 1 ts 0 (omega arith)) h)
    low (suc j) h = omega arith

    high : (j : ℕ) → has (places 1 s (argument_sets ts)) j ≡ true → (d : ℕ) → j - count_trees ts ≡ d → j ≤ count_trees ts
    high j h zero e = omega (arith, e)
    high j h (suc d) e = absurd (none-at s ts j (argument_high 1 ts j (omega (arith, e))) h)

all-within : (u : ℕ) (ss : List ℕ) → ((s : ℕ) → listed s ss ≡ true → within s u ≡ true) → within (all_of ss) u ≡ true
all-within u [] h = within-made empty u (λ x i. absurd (clash (has empty x) i (has-empty x)))
all-within u (s ∷ ss) h =
    union_least s (all_of ss) u (h s (or_left (nat_eq s s) (listed s ss) (same_test s))) (all-within u ss (λ r i. h r (or_right (nat_eq r s) (listed r ss) i)))

record IsWithin (u : ℕ) (sh : Share) : Type 0 where
  any : within sh.any u ≡ true
  sets : (s : ℕ) → listed s sh.sets ≡ true → within s u ≡ true

norm-within : (u : ℕ) (sh : Share) → IsWithin u sh → IsWithin u (norm sh)
norm-within u sh h = go (too_many (dropped sh).sets)
  where
    sets : (s : ℕ) → listed s (dropped sh).sets ≡ true → within s u ≡ true
    sets s i = h.sets s (filtered _ s sh.sets i)

    go : (b : Bool) → IsWithin u (cond b (widen (dropped sh)) (dropped sh))
    go true = record { any = union_least sh.any (all_of (dropped sh).sets) u h.any (all-within u (dropped sh).sets sets); sets = λ s i. absurd (false≢true i) }
    go false = record { any = h.any; sets = sets }

call_share-within : (sh : Share) (ts : Trees) → IsWithin (own (count_trees ts)) (call_share sh (argument_sets ts))
call_share-within sh ts =
    norm-within (own (count_trees ts)) (record { sets = sets_of (map (λ s. places 1 s (argument_sets ts)) sh.sets); any = places 1 sh.any (argument_sets ts) })
    (record { any = places-own sh.any ts; sets = sets })
  where
    mapped : (s : ℕ) → listed s (map (λ r. places 1 r (argument_sets ts)) sh.sets) ≡ true → within s (own (count_trees ts)) ≡ true
    mapped s i =
        let r = Elem-map (λ r. places 1 r (argument_sets ts)) s sh.sets (Elem-listed s (map (λ r. places 1 r (argument_sets ts)) sh.sets) i) in
        subst (λ z. within z (own (count_trees ts)) ≡ true) r.2 (places-own r.0 ts)

    sets : (s : ℕ) → listed s (sets_of (map (λ r. places 1 r (argument_sets ts)) sh.sets)) ≡ true → within s (own (count_trees ts)) ≡ true
    sets s i = mapped s (sym (listed-join [] (map (λ r. places 1 r (argument_sets ts)) sh.sets) s) ∙ i)

pub call_pattern-any : (s : State) (g : Tree) → Below (call_pattern s g) (any_pattern (count_trees (arguments g)))
call_pattern-any Unreachable g = tt
call_pattern-any (Reachable sh fr) g =
    let w = call_share-within sh (arguments g) in
    record {
      any = w.any;
      sets = λ s i. member_within s (record { sets = []; any = own (count_trees (arguments g)) }) (w.sets s i);
      free = within-made empty _ (λ x i. absurd (clash (has empty x) i (has-empty x)));
    }

any-covers : (s p : State) (g : Tree) → is_covered (any_pattern (count_trees (arguments g))) p ≡ true → is_covered (call_pattern s g) p ≡ true
any-covers s p g h =
    covered-Below (call_pattern s g) p
    (Below_trans (call_pattern s g) (any_pattern (count_trees (arguments g))) p (call_pattern-any s g) (Below-covered (any_pattern (count_trees (arguments g))) p h))

-- ---- goals that give nothing new

-- in no state a goal gives anything new
abbrev pub IsOpen : Patterns → Tree → Type 0
IsOpen t g = (s : State) → uncovered t (given_by_goal s g) ≡ []

pub builtin-open : (t : Patterns) (g : Tree) → is_builtin g ≡ true → IsOpen t g
builtin-open t g h s = ap (λ b. uncovered t (cond b [] (to_call (predicate_of g) (call_pattern s g)))) h

pub called-open : (t : Patterns) (g : Tree) (p : State) → call_at t (predicate_of g) ≡ p → is_covered (any_pattern (count_trees (arguments g))) p ≡ true → IsOpen t g
called-open t g p e h s = go (is_builtin g)
  where
    calls : (q : Option Predicate) → call_at t q ≡ p → uncovered t (to_call q (call_pattern s g)) ≡ []
    calls None i = refl
    calls (Some q) i = covered-nothing t (record { slot = Call q; pattern = call_pattern s g }) (any-covers s (t (Call q)) g (ap (is_covered (any_pattern (count_trees (arguments g)))) i ∙ h))

    go : (b : Bool) → uncovered t (cond b [] (to_call (predicate_of g) (call_pattern s g))) ≡ []
    go true = refl
    go false = calls (predicate_of g) e

pub success-open : (t : Patterns) (g : Tree) (p : State) → success_at t (predicate_of g) ≡ p → is_covered (any_pattern (count_trees (arguments g))) p ≡ true
    → (s : State) → uncovered t (to_success (predicate_of g) (call_pattern s g)) ≡ []
success-open t g p e h s = go (predicate_of g) e
  where
    go : (q : Option Predicate) → success_at t q ≡ p → uncovered t (to_success q (call_pattern s g)) ≡ []
    go None i = refl
    go (Some q) i = covered-nothing t (record { slot = Success q; pattern = call_pattern s g }) (any-covers s (t (Success q)) g (ap (is_covered (any_pattern (count_trees (arguments g)))) i ∙ h))

-- ---- goals that have no answer

abbrev pub IsStuck : Patterns → Tree → Type 0
IsStuck t g = (s : State) → after_goal t s g ≡ Unreachable

pub unanswered-stuck : (t : Patterns) (g : Tree) → is_builtin g ≡ false → success_at t (predicate_of g) ≡ Unreachable → IsStuck t g
unanswered-stuck t g b e s = ap (λ z. cond z (after_builtin s g) (after_call s g (success_at t (predicate_of g)))) b ∙ ap (after_call s g) e ∙ go s
  where
    go : (r : State) → after_call r g Unreachable ≡ Unreachable
    go Unreachable = refl
    go (Reachable sh fr) = refl

-- ---- walks over goals and parts

pub at_fork-turn : (t : Patterns) (g : Tree) (gs : Trees) → IsOpen t g → ((s : State) → uncovered t (given_at_fork s gs) ≡ []) → (s : State) → uncovered t (given_at_fork s (more g gs)) ≡ []
at_fork-turn t g gs h k s = nothing-append t (given_by_goal s g) (given_at_fork s gs) (h s) (k s)

pub in_turn-turn : (t : Patterns) (g : Tree) (gs : Trees) → IsOpen t g → ((s : State) → uncovered t (given_in_turn t s gs) ≡ []) → (s : State) → uncovered t (given_in_turn t s (more g gs)) ≡ []
in_turn-turn t g gs h k s = nothing-append t (given_by_goal s g) (given_in_turn t (after_goal t s g) gs) (h s) (k (after_goal t s g))

pub group-open : (t : Patterns) (cs : List Check) (gs : Trees) → ((s : State) → uncovered t (given_at_fork s gs) ≡ []) → ((s : State) → uncovered t (given_in_turn t s gs) ≡ [])
    → (s : State) → uncovered t (given_by_part t s (group cs gs)) ≡ []
group-open t cs gs h k s = nothing-append t (given_at_fork s gs) (given_in_turn t s gs) (h s) (k s)

pub goals-stuck : (t : Patterns) (g : Tree) (gs : Trees) → IsStuck t g → (s : State) → after_goals t s (more g gs) ≡ Unreachable
goals-stuck t g gs h s = ap (λ z. after_goals t z gs) (h s) ∙ after_goals-unreached t gs

pub on-turn : (t : Patterns) (head : Tree) (p : Part) (ps : List Part) → ((s : State) → uncovered t (given_by_part t s p) ≡ []) → ((s : State) → uncovered t (given_on t head s ps) ≡ [])
    → (s : State) → uncovered t (given_on t head s (p ∷ ps)) ≡ []
on-turn t head p ps h k s =
    ap (uncovered t) (append_assoc (given_by_part t s p) (given_by_body t (after_part t s p) ps) (to_success (predicate_of head) (call_pattern (after_body t (after_part t s p) ps) head)))
    ∙ nothing-append t (given_by_part t s p) (given_on t head (after_part t s p) ps) (h s) (k (after_part t s p))

pub on-stuck : (t : Patterns) (head : Tree) (p : Part) (ps : List Part) → ((s : State) → uncovered t (given_by_part t s p) ≡ []) → ((s : State) → after_part t s p ≡ Unreachable)
    → (s : State) → uncovered t (given_on t head s (p ∷ ps)) ≡ []
on-stuck t head p ps h k s =
    ap (uncovered t) (append_assoc (given_by_part t s p) (given_by_body t (after_part t s p) ps) (to_success (predicate_of head) (call_pattern (after_body t (after_part t s p) ps) head)))
    ∙ nothing-append t (given_by_part t s p) (given_on t head (after_part t s p) ps) (h s) (ap (λ z. uncovered t (given_on t head z ps)) (k s) ∙ unreached_on t head ps)
