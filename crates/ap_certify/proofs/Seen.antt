-- What is known at a place of a body, and that it covers what is called and what comes back from there.
use Rattle.std.proofs.Common.{◌≡◌, ℕ, suc, ◌<◌, ◌≤◌, ◌⊎◌, inl, inr, Bool, true, false, ◌&&◌, ◌==◌, cond, if◌then◌else◌, is_some, IsTrue, nat_eq, nat_le, [], Option, Some, None, refl, ap, sym, ◌∙◌, subst, arith}
use Rattle.std.specs.List.{All}
use Rattle.std.proofs.lemmas.Bool.{false≢true, leb-true, leb-false}
use Rattle.std.proofs.lemmas.List.Elements.{All-head}
use Rattle.ap_term.proofs.TreeLists.{count_trees-instance_all}
use Rattle.ap_term.specs.Tree.{Tree, Trees, var, int, atom, node, none, more, count_trees}
use Rattle.ap_term.specs.Vars.{occurs, occurs_all}
use Rattle.ap_term.specs.WellFormed.{callable}
use Rattle.ap_term.specs.Substitution.{instance, instance_all, Subst, value}
use Rattle.ap_term.specs.Builtins.{relation_named, builtin}
use Rattle.ap_sharing.specs.VarSet.{has}
use Rattle.ap_sharing.proofs.Elements.{clash, has-empty}
use Rattle.ap_absunify.specs.declared.states.State.{State}
use Rattle.ap_absunify.specs.declared.states.State.TheVariants.{Unreachable, Reachable}
use Rattle.ap_absunify.specs.State.{Covers}
use Rattle.ap_absunify.specs.AfterBuiltin.{after_builtin}
use Rattle.ap_absunify.proofs.AfterBuiltin.{after_builtin-covers}
use Rattle.ap_absunify.proofs.Renamed.{Covers-same}
use Rattle.ap_absunify.proofs.Vars.{decide, refuted, any_some, occurs_instance}
use Rattle.ap_patterns.specs.declared.tables.Predicate.{Predicate}
use Rattle.ap_patterns.specs.declared.slots.Slot.TheVariants.{Call, Success}
use Rattle.ap_patterns.specs.Places.{arguments, argument, call_pattern}
use Rattle.ap_patterns.specs.Entering.{own}
use Rattle.ap_patterns.specs.AfterCall.{after_call, Answers}
use Rattle.ap_patterns.specs.Table.{predicate_of}
use Rattle.ap_patterns.specs.Given.{Patterns, call_at, success_at, to_call, to_success, is_builtin, any_pattern}
use Rattle.ap_patterns.specs.Covered.{IsHeld}
use Rattle.ap_patterns.proofs.Coverings.{covered-covers, builtin-test}
use Rattle.ap_patterns.proofs.CallPatterns.{call_pattern-covers}
use Rattle.ap_patterns.proofs.AfterCall.{after_call-covers}
use Rattle.ap_patterns.proofs.Entering.{own-has, argument_low, argument_high}
use Rattle.ap_certify.specs.declared.sights.Sight.{Sight}
use Rattle.ap_certify.specs.declared.sights.Sight.TheVariants.{Known, Unknown}
use Rattle.ap_certify.specs.Sights.{after}
use Rattle.ap_certify.specs.Held.{IsGoalHeld}
use Rattle.ap_certify.proofs.Tame.{Tame, tame_keeps, below}

-- ---- goals and their instances

pub argument_instance : (f : ℕ → Tree) (i : ℕ) (ts : Trees) (j : ℕ) → instance f (argument i ts j) ≡ argument i (instance_all f ts) j
argument_instance f i none j = refl
argument_instance f i (more t ts) j = go (nat_eq j i) (argument_instance f (suc i) ts j)
  where
    go : (b : Bool) → instance f (argument (suc i) ts j) ≡ argument (suc i) (instance_all f ts) j
        → instance f (cond b t (argument (suc i) ts j)) ≡ cond b (instance f t) (argument (suc i) (instance_all f ts) j)
    go true h = refl
    go false h = h

pub arguments_instance : (f : ℕ → Tree) (g : Tree) → IsTrue (callable g) → arguments (instance f g) ≡ instance_all f (arguments g)
arguments_instance f (var x) h = absurd (false≢true h)
arguments_instance f (int z) h = absurd (false≢true h)
arguments_instance f (atom a) h = refl
arguments_instance f (node a ts) h = refl

pub callable_instance : (f : ℕ → Tree) (g : Tree) → IsTrue (callable g) → IsTrue (callable (instance f g))
callable_instance f (var x) h = absurd (false≢true h)
callable_instance f (int z) h = absurd (false≢true h)
callable_instance f (atom a) h = h
callable_instance f (node a ts) h = ap (λ n. nat_le 1 n && nat_le n 255) (count_trees-instance_all f ts) ∙ h

pub predicate_instance : (f : ℕ → Tree) (g : Tree) → IsTrue (callable g) → predicate_of (instance f g) ≡ predicate_of g
predicate_instance f (var x) h = absurd (false≢true h)
predicate_instance f (int z) h = absurd (false≢true h)
predicate_instance f (atom a) h = refl
predicate_instance f (node a ts) h = ap (λ n. Some (record { name = a; arity = n })) (count_trees-instance_all f ts)

pub builtin_instance : (f : ℕ → Tree) (g : Tree) → IsTrue (callable g) → is_builtin (instance f g) ≡ is_builtin g
builtin_instance f (var x) h = absurd (false≢true h)
builtin_instance f (int z) h = absurd (false≢true h)
builtin_instance f (atom a) h = refl
builtin_instance f (node a ts) h = ap (λ n. (n == 2) && is_some (relation_named a)) (count_trees-instance_all f ts)

pub occurs_arguments : (r : ℕ) (g : Tree) → IsTrue (callable g) → occurs r g ≡ occurs_all r (arguments g)
occurs_arguments r (var x) h = absurd (false≢true h)
occurs_arguments r (int z) h = absurd (false≢true h)
occurs_arguments r (atom a) h = refl
occurs_arguments r (node a ts) h = refl

-- a callable goal has a predicate
pub record HasPredicate (g : Tree) : Type 0 where
  pub here : Predicate
  pub is : predicate_of g ≡ Some here
  pub many : here.arity ≡ count_trees (arguments g)

pub predicate : (g : Tree) → IsTrue (callable g) → HasPredicate g
predicate (var x) h = absurd (false≢true h)
predicate (int z) h = absurd (false≢true h)
predicate (atom a) h = record { here = record { name = a; arity = 0 }; is = refl; many = refl }
predicate (node a ts) h = record { here = record { name = a; arity = count_trees ts }; is = refl; many = refl }

-- ---- patterns that cover anything

pub any-covers : (n : ℕ) (ts : Trees) → count_trees ts ≡ n → Covers (any_pattern n) (argument 1 ts)
any-covers n ts e = (λ u x o. inr (λ y k. go u y k (decide (nat_le 1 y)) (decide (nat_le y n))), λ x k. absurd (false≢true (sym (has-empty x) ∙ k)))
  where
    go : (u y : ℕ) → occurs u (argument 1 ts y) ≡ true → (nat_le 1 y ≡ true) ⊎ (nat_le 1 y ≡ false) → (nat_le y n ≡ true) ⊎ (nat_le y n ≡ false) → has (own n) y ≡ true
    go u y k (inl a) (inl b) =
        let l : 1 ≤ y = leb-true 1 y a in
        own-has n y (omega arith) (leb-true y n b)
    go u y k (inr a) b =
        let l : y < 1 = leb-false 1 y a in
        absurd (false≢true (ap (occurs u) (sym (argument_low 1 ts y l)) ∙ k))
    go u y k (inl a) (inr b) =
        let l : n < y = leb-false y n b in
        absurd (false≢true (ap (occurs u) (sym (argument_high 1 ts y (omega arith))) ∙ k))

-- ---- what is known

abbrev pub Sees : Sight → (ℕ → Tree) → Type 0
Sees (Known s) f = Covers s f
Sees (Unknown Unreachable) f = ⊥
Sees (Unknown (Reachable sh fr)) f = Unit {0}

pub sees_same : (s : Sight) (f g : ℕ → Tree) → ((x : ℕ) → f x ≡ g x) → Sees s f → Sees s g
sees_same (Known s) f g e c = Covers-same s f g e c
sees_same (Unknown Unreachable) f g e c = c
sees_same (Unknown (Reachable sh fr)) f g e c = tt

-- ---- calls

-- a goal, unless it is built in, has arguments that its predicate's call pattern covers
abbrev pub IsCalled : Patterns → Tree → Type 0
IsCalled t g = builtin g ≡ None → Covers (call_at t (predicate_of g)) (argument 1 (arguments g))

not_builtin : (f : ℕ → Tree) (g : Tree) → IsTrue (callable g) → builtin (instance f g) ≡ None → is_builtin g ≡ false
not_builtin f g h e = sym (builtin_instance f g h) ∙ builtin-test (instance f g) ∙ ap is_some e

is_built_in : (f : ℕ → Tree) (g : Tree) (b : Option Subst) → IsTrue (callable g) → builtin (instance f g) ≡ Some b → is_builtin g ≡ true
is_built_in f g b h e = sym (builtin_instance f g h) ∙ builtin-test (instance f g) ∙ ap is_some e

-- what is given to the calls of a predicate is covered there
pub held_call : (t : Patterns) (o : Option Predicate) (p : Predicate) (s : State) (f : ℕ → Tree) → o ≡ Some p → All (IsHeld t) (to_call o s) → Covers s f → Covers (call_at t o) f
held_call t None p s f e h c = absurd (cc)
held_call t (Some q) p s f e h c = covered-covers s (t (Call q)) f (All-head (IsHeld t) (record { slot = Call q; pattern = s }) [] h) c

pub held_success : (t : Patterns) (o : Option Predicate) (p : Predicate) (s : State) (f : ℕ → Tree) → o ≡ Some p → All (IsHeld t) (to_success o s) → Covers s f → Covers (success_at t o) f
held_success t None p s f e h c = absurd (cc)
held_success t (Some q) p s f e h c = covered-covers s (t (Success q)) f (All-head (IsHeld t) (record { slot = Success q; pattern = s }) [] h) c

pub called : (t : Patterns) (s : Sight) (g : Tree) (f : ℕ → Tree) → IsTrue (callable g) → IsGoalHeld t s g → Sees s f → IsCalled t (instance f g)
called t (Known s) g f cg h c e =
    let p = predicate g cg in
    let held : All (IsHeld t) (to_call (predicate_of g) (call_pattern s g)) =
    subst (λ b. All (IsHeld t) (if b then [] else to_call (predicate_of g) (call_pattern s g))) (not_builtin f g cg e) h in
    subst (λ o. Covers (call_at t o) (argument 1 (arguments (instance f g)))) (sym (predicate_instance f g cg))
    (Covers-same (call_at t (predicate_of g)) (λ j. instance f (argument 1 (arguments g) j)) (argument 1 (arguments (instance f g)))
    (λ j. argument_instance f 1 (arguments g) j ∙ ap (λ ts. argument 1 ts j) (sym (arguments_instance f g cg)))
    (held_call t (predicate_of g) p.here (call_pattern s g) (λ j. instance f (argument 1 (arguments g) j)) p.is held (call_pattern-covers s g f c)))
called t (Unknown Unreachable) g f cg h c e = absurd c
called t (Unknown (Reachable sh fr)) g f cg h c e =
    let p = predicate g cg in
    let held : All (IsHeld t) (to_call (predicate_of g) (any_pattern (count_trees (arguments g)))) =
    subst (λ b. All (IsHeld t) (if b then [] else to_call (predicate_of g) (any_pattern (count_trees (arguments g))))) (not_builtin f g cg e) h in
    subst (λ o. Covers (call_at t o) (argument 1 (arguments (instance f g)))) (sym (predicate_instance f g cg))
    (held_call t (predicate_of g) p.here (any_pattern (count_trees (arguments g))) (argument 1 (arguments (instance f g))) p.is held
    (any-covers (count_trees (arguments g)) (arguments (instance f g)) (ap count_trees (arguments_instance f g cg) ∙ count_trees-instance_all f (arguments g))))

-- ---- answers

-- all variables of the instances are below n
abbrev pub Bounded : (ℕ → Tree) → ℕ → Type 0
Bounded f n = (x r : ℕ) → occurs r (f x) ≡ true → r < n

pub goal_bounded : (f : ℕ → Tree) (n : ℕ) (g : Tree) → Bounded f n → (r : ℕ) → occurs r (instance f g) ≡ true → r < n
goal_bounded f n g h r o = let p = any_some (λ x. occurs r (f x)) g (sym (occurs_instance r f g) ∙ o) in h p.0 r p.2

abbrev pub Of_f : (ℕ → Tree) → ℕ → Type 0
Of_f f r = (x : ℕ) × (occurs r (f x) ≡ true)

pub next_bounded : (f k : ℕ → Tree) (n m : ℕ) → Bounded f n → Tame (Of_f f) n k m → Bounded (λ x. instance k (f x)) m
next_bounded f k n m h t x r o =
    below (Of_f f) n m t.grows (λ r v. h v.0 r v.1) r (tame_keeps (Of_f f) n m k (f x) t (λ r o. (x, o)) r o)

answers_of : (f k : ℕ → Tree) (n m : ℕ) (g : Tree) → IsTrue (callable g) → Bounded f n → Tame (λ r. occurs r (instance f g) ≡ true) n k m → Answers (instance f (node 0 (arguments g))) f k
answers_of f k n m g cg h t = record {
  others = λ r y o i. t.others r (h y r o) (λ v. clash (occurs r (instance f g)) v (same r ∙ i));
  fresh = λ r w y v o i. refuted (occurs w (f y)) (λ j. go w y (same w ∙ i) j (t.fresh r w (same r ∙ v) o));
}
  where
    same : (r : ℕ) → occurs r (instance f g) ≡ occurs_all r (instance_all f (arguments g))
    same r = occurs_arguments r (instance f g) (callable_instance f g cg) ∙ ap (occurs_all r) (arguments_instance f g cg)

    go : (w y : ℕ) → occurs w (instance f g) ≡ false → occurs w (f y) ≡ true → (occurs w (instance f g) ≡ true) ⊎ ((n ≤ w) × (w < m)) → ⊥
    go w y i j (inl v) = clash (occurs w (instance f g)) v i
    go w y i j (inr q) = let l = h y w j in let e = q.0 in absurd (omega arith)

-- an answer by clauses
pub returned : (t : Patterns) (s : Sight) (g : Tree) (f k : ℕ → Tree) (n m : ℕ) → IsTrue (callable g) → builtin (instance f g) ≡ None → Bounded f n
    → Tame (λ r. occurs r (instance f g) ≡ true) n k m → Sees s f
    → Covers (success_at t (predicate_of (instance f g))) (λ j. instance k (argument 1 (arguments (instance f g)) j)) → Sees (after t s g) (λ x. instance k (f x))
returned t (Known s) g f k n m cg e bd ta c d =
    subst (λ b. Covers (if b then after_builtin s g else after_call s g (success_at t (predicate_of g))) (λ x. instance k (f x))) (sym (not_builtin f g cg e))
    (after_call-covers s (success_at t (predicate_of g)) g f k c
    (Covers-same (success_at t (predicate_of g)) (λ j. instance k (argument 1 (arguments (instance f g)) j)) (λ j. instance k (instance f (argument 1 (arguments g) j)))
    (λ j. ap (instance k) (ap (λ ts. argument 1 ts j) (arguments_instance f g cg) ∙ sym (argument_instance f 1 (arguments g) j)))
    (subst (λ o. Covers (success_at t o) (λ j. instance k (argument 1 (arguments (instance f g)) j))) (predicate_instance f g cg) d))
    (answers_of f k n m g cg bd ta))
returned t (Unknown Unreachable) g f k n m cg e bd ta c d = c
returned t (Unknown (Reachable sh fr)) g f k n m cg e bd ta c d = tt

-- an answer of a built-in goal
pub answered-sees : (t : Patterns) (s : Sight) (g : Tree) (f : ℕ → Tree) (b : Subst) → IsTrue (callable g) → builtin (instance f g) ≡ Some (Some b) → Sees s f → Sees (after t s g) (λ x. instance (value b) (f x))
answered-sees t (Known s) g f b cg e c =
    subst (λ p. Covers (if p then after_builtin s g else after_call s g (success_at t (predicate_of g))) (λ x. instance (value b) (f x))) (sym (is_built_in f g (Some b) cg e))
    (after_builtin-covers s g f b cg c e)
answered-sees t (Unknown Unreachable) g f b cg e c = c
answered-sees t (Unknown (Reachable sh fr)) g f b cg e c = tt
