-- What the analysis sees of goals that are alike is the same.
use Rattle.std.proofs.Common.{◌≡◌, inl, inr, ℕ, suc, Bool, true, false, not, ◌&&◌, ◌||◌, ◌+◌, ◌==◌, if◌then◌else◌, List, [], ◌∷◌, ◌++◌, Some, map, nat_lt, refl, ap, ap₂, sym, ◌∙◌}
use Rattle.std.proofs.lemmas.Bool.{false≢true, or_parts}
use Rattle.std.specs.Prelude.{is_some}
use Rattle.std.specs.List.{filter, flat_map}
use Rattle.ap_term.specs.Tree.{Tree, Trees, var, int, atom, node, none, more, count_trees}
use Rattle.ap_term.specs.Vars.{occurs, occurs_all}
use Rattle.ap_term.specs.Builtins.{is_builtin, relation_named}
use Rattle.ap_term.proofs.Facts.{funext}
use Rattle.ap_term.specs.declared.clauses.Check.{Check}
use Rattle.ap_term.specs.declared.clauses.Check.TheVariants.{Ground, Indep}
use Rattle.ap_conditions.specs.FullCondition.{numbers, full_condition}
use Rattle.ap_term.specs.Independence.{IsGround, shared, of_two_goals}
use Rattle.ap_sharing.specs.VarSet.{empty, just, union, has}
use Rattle.ap_sharing.specs.Share.{ground_share}
use Rattle.ap_sharing.proofs.Elements.{same_test, union-empty}
use Rattle.ap_absunify.specs.TermSets.{var_set, var_set_all}
use Rattle.ap_absunify.specs.AfterUnify.{is_free}
use Rattle.ap_absunify.specs.AfterBuiltin.{after_builtin}
use Rattle.ap_absunify.specs.State.{made}
use Rattle.ap_absunify.specs.declared.states.State.{State}
use Rattle.ap_absunify.specs.declared.states.State.TheVariants.{Unreachable, Reachable}
use Rattle.ap_patterns.specs.Places.{argument_sets, free_places, call_share, call_pattern}
use Rattle.ap_patterns.specs.AfterCall.{grounded, kept_free, returned_share, returned_free, after_call}
use Rattle.ap_patterns.specs.Given.{Patterns, to_call, success_at, given_by_goal, after_goal, given_anyhow, anything, any_pattern}
use Rattle.ap_alike.specs.Alike.{IsAlikeArgument, AreAlikeArguments, IsAlikeGoal, AreAlikeGoals}

-- ---- terms without variables

stands : (x : ℕ) → occurs x (var x) ≡ true
stands x = same_test x

mutual
  bare : (t : Tree) → IsGround t → var_set t ≡ empty
  bare (var x) g = absurd (false≢true (sym (g x) ∙ stands x))
  bare (int z) g = refl
  bare (atom a) g = refl
  bare (node a ts) g = bare_all ts g

  bare_all : (ts : Trees) → ((x : ℕ) → occurs_all x ts ≡ false) → var_set_all ts ≡ empty
  bare_all none g = refl
  bare_all (more t ts) g =
      ap₂ union (bare t (λ x. (or_parts (occurs x t) (occurs_all x ts) (g x)).0)) (bare_all ts (λ x. (or_parts (occurs x t) (occurs_all x ts) (g x)).1)) ∙ union-empty empty

never_free : (fr : ℕ) (t : Tree) → IsGround t → is_free fr t ≡ false
never_free fr (var x) g = absurd (false≢true (sym (g x) ∙ stands x))
never_free fr (int z) g = refl
never_free fr (atom a) g = refl
never_free fr (node a ts) g = refl

-- ---- arguments

set_alike : (t u : Tree) → IsAlikeArgument t u → var_set u ≡ var_set t
set_alike t u (inl e) = ap var_set e
set_alike t u (inr g) = bare u g.1 ∙ sym (bare t g.0)

free_alike : (fr : ℕ) (t u : Tree) → IsAlikeArgument t u → is_free fr u ≡ is_free fr t
free_alike fr t u (inl e) = ap (is_free fr) e
free_alike fr t u (inr g) = never_free fr u g.1 ∙ sym (never_free fr t g.0)

occurs_alike : (x : ℕ) (t u : Tree) → IsAlikeArgument t u → occurs x u ≡ occurs x t
occurs_alike x t u (inl e) = ap (occurs x) e
occurs_alike x t u (inr g) = g.1 x ∙ sym (g.0 x)

count-alike : (ts us : Trees) → AreAlikeArguments ts us → count_trees us ≡ count_trees ts
count-alike none none h = refl
count-alike none (more u us) h = absurd h
count-alike (more t ts) none h = absurd h
count-alike (more t ts) (more u us) h = ap (λ n. n + 1) (count-alike ts us h.1)

sets-alike : (ts us : Trees) → AreAlikeArguments ts us → argument_sets us ≡ argument_sets ts
sets-alike none none h = refl
sets-alike none (more u us) h = absurd h
sets-alike (more t ts) none h = absurd h
sets-alike (more t ts) (more u us) h = ap₂ (λ s ss. s ∷ ss) (set_alike t u h.0) (sets-alike ts us h.1)

set_all-alike : (ts us : Trees) → AreAlikeArguments ts us → var_set_all us ≡ var_set_all ts
set_all-alike none none h = refl
set_all-alike none (more u us) h = absurd h
set_all-alike (more t ts) none h = absurd h
set_all-alike (more t ts) (more u us) h = ap₂ union (set_alike t u h.0) (set_all-alike ts us h.1)

free_places-alike : (i fr : ℕ) (ts us : Trees) → AreAlikeArguments ts us → free_places i fr us ≡ free_places i fr ts
free_places-alike i fr none none h = refl
free_places-alike i fr none (more u us) h = absurd h
free_places-alike i fr (more t ts) none h = absurd h
free_places-alike i fr (more t ts) (more u us) h =
    ap₂ (λ b s. union (if b then just i else empty) s) (free_alike fr t u h.0) (free_places-alike (suc i) fr ts us h.1)

kept_free-alike : (i fr success : ℕ) (ts us : Trees) → AreAlikeArguments ts us → kept_free i fr success us ≡ kept_free i fr success ts
kept_free-alike i fr success none none h = refl
kept_free-alike i fr success none (more u us) h = absurd h
kept_free-alike i fr success (more t ts) none h = absurd h
kept_free-alike i fr success (more t ts) (more u us) h =
    ap₂ (λ b s. union (if b && has success i then var_set u else empty) s) (free_alike fr t u h.0) (kept_free-alike (suc i) fr success ts us h.1)
    ∙ ap (λ v. union (if is_free fr t && has success i then v else empty) (kept_free (suc i) fr success ts)) (set_alike t u h.0)

occurs_all-alike : (x : ℕ) (ts us : Trees) → AreAlikeArguments ts us → occurs_all x us ≡ occurs_all x ts
occurs_all-alike x none none h = refl
occurs_all-alike x none (more u us) h = absurd h
occurs_all-alike x (more t ts) none h = absurd h
occurs_all-alike x (more t ts) (more u us) h = ap₂ (λ a b. a || b) (occurs_alike x t u h.0) (occurs_all-alike x ts us h.1)

-- ---- goals of one predicate

builtin-alike : (a : ℕ) (ts us : Trees) → AreAlikeArguments ts us → is_builtin (node a us) ≡ is_builtin (node a ts)
builtin-alike a ts us h = ap (λ n. (n == 2) && is_some (relation_named a)) (count-alike ts us h)

call_pattern-alike : (s : State) (a : ℕ) (ts us : Trees) → AreAlikeArguments ts us → call_pattern s (node a us) ≡ call_pattern s (node a ts)
call_pattern-alike Unreachable a ts us h = refl
call_pattern-alike (Reachable sh fr) a ts us h = ap₂ (λ args free. made (call_share sh args) free) (sets-alike ts us h) (free_places-alike 1 fr ts us h)

after_call-alike : (s r : State) (a : ℕ) (ts us : Trees) → AreAlikeArguments ts us → after_call s (node a us) r ≡ after_call s (node a ts) r
after_call-alike Unreachable r a ts us h = refl
after_call-alike (Reachable sh fr) Unreachable a ts us h = refl
after_call-alike (Reachable sh fr) (Reachable success sfr) a ts us h =
    ap (λ args. made (returned_share (ground_share sh (grounded 1 success args)) args (var_set_all us) success) (returned_free sh fr (var_set_all us) (kept_free 1 fr sfr us))) (sets-alike ts us h)
    ∙ ap (λ v. made (returned_share (ground_share sh (grounded 1 success (argument_sets ts))) (argument_sets ts) v success) (returned_free sh fr v (kept_free 1 fr sfr us))) (set_all-alike ts us h)
    ∙ ap (λ k. made (returned_share (ground_share sh (grounded 1 success (argument_sets ts))) (argument_sets ts) (var_set_all ts) success) (returned_free sh fr (var_set_all ts) k)) (kept_free-alike 1 fr sfr ts us h)

-- ---- goals

-- what holds of the same goal, and of two of one predicate, holds of goals that are alike
for_goals : {X : Type 0} (f : Tree → X) → ((a : ℕ) (ts us : Trees) → is_builtin (node a ts) ≡ false → AreAlikeArguments ts us → f (node a us) ≡ f (node a ts)) → (g h : Tree) → IsAlikeGoal g h → f h ≡ f g
for_goals f each g h (inl e) = ap f e
for_goals f each g h (inr c) =
    ap f c.right_is ∙ each c.name c.left c.right (ap is_builtin (sym c.left_is) ∙ c.user) c.arguments ∙ ap f (sym c.left_is)

pub given-goal : (s : State) (g h : Tree) → IsAlikeGoal g h → given_by_goal s h ≡ given_by_goal s g
given-goal s g h w = for_goals (given_by_goal s) each g h w
  where
    each : (a : ℕ) (ts us : Trees) → is_builtin (node a ts) ≡ false → AreAlikeArguments ts us → given_by_goal s (node a us) ≡ given_by_goal s (node a ts)
    each a ts us b k =
        ap (λ c. if c then [] else to_call (Some (record { name = a; arity = count_trees us })) (call_pattern s (node a us))) (builtin-alike a ts us k)
        ∙ ap₂ (λ n p. if is_builtin (node a ts) then [] else to_call (Some (record { name = a; arity = n })) p) (count-alike ts us k) (call_pattern-alike s a ts us k)

pub after-goal : (t : Patterns) (s : State) (g h : Tree) → IsAlikeGoal g h → after_goal t s h ≡ after_goal t s g
after-goal t s g h w = for_goals (after_goal t s) each g h w
  where
    at : ℕ → ℕ → State
    at a n = success_at t (Some (record { name = a; arity = n }))

    each : (a : ℕ) (ts us : Trees) → is_builtin (node a ts) ≡ false → AreAlikeArguments ts us → after_goal t s (node a us) ≡ after_goal t s (node a ts)
    each a ts us b k =
        ap (λ c. if c then after_builtin s (node a us) else after_call s (node a us) (at a (count_trees us))) (builtin-alike a ts us k ∙ b)
        ∙ ap (λ n. after_call s (node a us) (at a n)) (count-alike ts us k)
        ∙ after_call-alike s (at a (count_trees ts)) a ts us k
        ∙ ap (λ c. if c then after_builtin s (node a ts) else after_call s (node a ts) (at a (count_trees ts))) (sym b)

pub anyhow-goal : (s : State) (g h : Tree) → IsAlikeGoal g h → given_anyhow s h ≡ given_anyhow s g
anyhow-goal s g h w = for_goals (given_anyhow s) each g h w
  where
    anything-alike : (r : State) (a : ℕ) (ts us : Trees) → AreAlikeArguments ts us → anything r (node a us) ≡ anything r (node a ts)
    anything-alike Unreachable a ts us k = refl
    anything-alike (Reachable sh fr) a ts us k = ap any_pattern (count-alike ts us k)

    each : (a : ℕ) (ts us : Trees) → is_builtin (node a ts) ≡ false → AreAlikeArguments ts us → given_anyhow s (node a us) ≡ given_anyhow s (node a ts)
    each a ts us b k =
        ap (λ c. if c then [] else to_call (Some (record { name = a; arity = count_trees us })) (anything s (node a us))) (builtin-alike a ts us k)
        ∙ ap₂ (λ n p. if is_builtin (node a ts) then [] else to_call (Some (record { name = a; arity = n })) p) (count-alike ts us k) (anything-alike s a ts us k)

pub user-goal : (g h : Tree) → IsAlikeGoal g h → is_builtin h ≡ is_builtin g
user-goal g h w = for_goals is_builtin (λ a ts us b k. builtin-alike a ts us k) g h w

pub occurs-goal : (x : ℕ) (g h : Tree) → IsAlikeGoal g h → occurs x h ≡ occurs x g
occurs-goal x g h w = for_goals (occurs x) (λ a ts us b k. occurs_all-alike x ts us k) g h w

-- ---- the goals of a group

occurs-goals : (x : ℕ) (gs hs : Trees) → AreAlikeGoals gs hs → occurs_all x hs ≡ occurs_all x gs
occurs-goals x none none w = refl
occurs-goals x none (more h hs) w = absurd w
occurs-goals x (more g gs) none w = absurd w
occurs-goals x (more g gs) (more h hs) w = ap₂ (λ a b. a || b) (occurs-goal x g h w.0) (occurs-goals x gs hs w.1)

pub shared-goals : (x : ℕ) (gs hs : Trees) → AreAlikeGoals gs hs → shared x hs ≡ shared x gs
shared-goals x none none w = refl
shared-goals x none (more h hs) w = absurd w
shared-goals x (more g gs) none w = absurd w
shared-goals x (more g gs) (more h hs) w =
    ap₂ (λ a b. a || b) (ap₂ (λ a b. a && b) (occurs-goal x g h w.0) (occurs-goals x gs hs w.1)) (shared-goals x gs hs w.1)

pub of_two-goals : (x y : ℕ) (gs hs : Trees) → AreAlikeGoals gs hs → of_two_goals x y hs ≡ of_two_goals x y gs
of_two-goals x y none none w = refl
of_two-goals x y none (more h hs) w = absurd w
of_two-goals x y (more g gs) none w = absurd w
of_two-goals x y (more g gs) (more h hs) w =
    ap₂ (λ a b. a || b) (ap₂ (λ a b. a && b) (occurs-goal x g h w.0) (occurs-goals y gs hs w.1))
    (ap₂ (λ a b. a || b) (ap₂ (λ a b. a && b) (occurs-goal y g h w.0) (occurs-goals x gs hs w.1)) (of_two-goals x y gs hs w.1))

-- a full condition, by which variables are shared and which stand in two goals
condition_of : (ℕ → Bool) → (ℕ → ℕ → Bool) → List Check
condition_of sh two =
    map Ground (filter sh (numbers 255))
    ++ flat_map (λ x. map (Indep x) (filter (λ y. nat_lt x y && (not (sh x) && (not (sh y) && two x y))) (numbers 255))) (numbers 255)

pub condition-goals : (gs hs : Trees) → AreAlikeGoals gs hs → full_condition hs ≡ full_condition gs
unfolding condition_of
condition-goals gs hs w =
    ap₂ condition_of (funext (λ x. shared x hs) (λ x. shared x gs) (λ x. shared-goals x gs hs w))
    (funext (λ x y. of_two_goals x y hs) (λ x y. of_two_goals x y gs) (λ x. funext (λ y. of_two_goals x y hs) (λ y. of_two_goals x y gs) (λ y. of_two-goals x y gs hs w)))
