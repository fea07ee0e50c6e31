-- The sets of a group's goals say which variables its goals share.
use Rattle.std.proofs.Common.{◌≡◌, ℕ, ◌+◌, ◌<◌, Bool, true, false, not, ◌||◌, ◌&&◌, nat_lt, if◌then◌else◌, ◌⊎◌, inl, inr, List, [], ◌∷◌, ◌++◌, map, take, drop, get_or, length, append_assoc, append-nil, arith, refl, ap, ap₂, sym, ◌∙◌}
use Rattle.std.proofs.Math.Bool.{or-false, and-false}
use Rattle.std.specs.List.{filter, flat_map}
use Rattle.std.proofs.lemmas.List.{drop_more}
use Rattle.std.proofs.lemmas.Bool.{false≢true, ne_eqb}
use Rattle.std.proofs.lemmas.List.Folds.{list_any-append}
use Rattle.ap_term.specs.declared.clauses.Check.TheVariants.{Ground, Indep}
use Rattle.ap_term.specs.Tree.{Trees, none, more}
use Rattle.ap_term.specs.Vars.{occurs, occurs_all}
use Rattle.ap_term.specs.Independence.{shared, of_two_goals}
use Rattle.ap_term.proofs.TermLists.{trees_of-drop_more}
use Rattle.ap_sharing.specs.VarSet.{has, empty, just, union, both, without}
use Rattle.ap_sharing.proofs.Elements.{has-empty, has-union, has-both, has-without, has-just, union_assoc, empty-union}
use Rattle.ap_absunify.specs.TermSets.{var_set}
use Rattle.ap_absunify.proofs.TermSets.{has-var_set}
use Rattle.ap_absunify.proofs.Vars.{or_cases, and_both, or_none}
use Rattle.ap_conditions.specs.FullCondition.{numbers, is_pair, indeps_of, full_condition}
use Rattle.ap_conditions.specs.GoalSets.{goal_sets, in_one, in_two, others, indeps_with, indeps_among}
use Rattle.ap_conditions.proofs.Numbers.{filter_same, filter_none, joined_same}

pub ruleset rules_of_sets = (trees_of-drop_more, append_assoc, append-nil)

-- what is taken away below a number changes nothing above
pub kept_above : (s x y : ℕ) → x < y → has (without s (just x)) y ≡ has s y
kept_above s x y h = has-without s (just x) y ∙ ap (λ b. has s y && not b) (has-just x y ∙ ne_eqb y x (other h)) ∙ go (has s y)
  where
    other : x < y → y ≡ x → ⊥
    other h e = omega (arith, h, e)

    go : (b : Bool) → (b && true) ≡ b
    go true = refl
    go false = refl

-- ---- one set more

pub in_one-more : (ss : List ℕ) (s x : ℕ) → in_one (ss ++ s ∷ []) x ≡ (in_one ss x || has s x)
in_one-more ss s x = list_any-append (λ r. has r x) ss (s ∷ []) ∙ ap (λ b. in_one ss x || b) (or-false (has s x))

pub in_two-more : (ss : List ℕ) (s x : ℕ) → in_two (ss ++ s ∷ []) x ≡ (in_two ss x || (in_one ss x && has s x))
in_two-more [] s x = go (has s x)
  where
    go : (b : Bool) → ((b && false) || false) ≡ false
    go true = refl
    go false = refl
in_two-more (r ∷ ss) s x =
    ap₂ (λ a b. (has r x && a) || b) (in_one-more ss s x) (in_two-more ss s x) ∙ go (has r x) (in_one ss x) (has s x) (in_two ss x)
  where
    go : (a b c d : Bool) → ((a && (b || c)) || (d || (b && c))) ≡ (((a && b) || d) || ((a || b) && c))
    go true true true true = refl
    go true true true false = refl
    go true true false true = refl
    go true true false false = refl
    go true false true true = refl
    go true false true false = refl
    go true false false true = refl
    go true false false false = refl
    go false true true true = refl
    go false true true false = refl
    go false true false true = refl
    go false true false false = refl
    go false false true true = refl
    go false false true false = refl
    go false false false true = refl
    go false false false false = refl

-- the union of those without x, where the next set is s
pub others-passed : (found x i s whole : ℕ) (sets : List ℕ) → i < length sets → s ≡ get_or sets i s → has s x ≡ true
    → union found (others (drop i sets) x) ≡ whole → union found (others (drop (i + 1) sets) x) ≡ whole
others-passed found x i s whole sets h e t w =
    ap (union found) (sym (empty-union (others (drop (i + 1) sets) x)) ∙ ap (λ b. union (if b then empty else s) (others (drop (i + 1) sets) x)) (sym t)
    ∙ ap (λ r. union (if has r x then empty else r) (others (drop (i + 1) sets) x)) e
    ∙ sym (ap (λ l. others l x) (drop_more sets i s h)))
    ∙ w

pub others-taken : (found new x i s whole : ℕ) (sets : List ℕ) → i < length sets → s ≡ get_or sets i s → has s x ≡ false → new ≡ union found s
    → union found (others (drop i sets) x) ≡ whole → union new (others (drop (i + 1) sets) x) ≡ whole
others-taken found new x i s whole sets h e t n w =
    ap (λ f. union f (others (drop (i + 1) sets) x)) n ∙ union_assoc found s (others (drop (i + 1) sets) x)
    ∙ ap (union found) (ap (λ b. union (if b then empty else s) (others (drop (i + 1) sets) x)) (sym t)
    ∙ ap (λ r. union (if has r x then empty else r) (others (drop (i + 1) sets) x)) e
    ∙ sym (ap (λ l. others l x) (drop_more sets i s h)))
    ∙ w

-- ---- sets and goals

pub in_one-goals : (ts : Trees) (x : ℕ) → in_one (goal_sets ts) x ≡ occurs_all x ts
in_one-goals none x = refl
in_one-goals (more t ts) x = ap₂ (λ a b. a || b) (has-var_set t x) (in_one-goals ts x)

pub in_two-goals : (ts : Trees) (x : ℕ) → in_two (goal_sets ts) x ≡ shared x ts
in_two-goals none x = refl
in_two-goals (more t ts) x = ap₂ (λ a b. a || b) (ap₂ (λ a b. a && b) (has-var_set t x) (in_one-goals ts x)) (in_two-goals ts x)

-- none of the sets has x
others-all : (ts : Trees) (x y : ℕ) → occurs_all x ts ≡ false → has (others (goal_sets ts) x) y ≡ occurs_all y ts
others-all none x y h = has-empty y
others-all (more t ts) x y h =
    let r = or_none (occurs x t) (occurs_all x ts) h in
    has-union (if has (var_set t) x then empty else var_set t) (others (goal_sets ts) x) y
    ∙ ap₂ (λ a b. a || b) (ap (λ b. has (if b then empty else var_set t) y) (has-var_set t x ∙ r.0) ∙ has-var_set t y) (others-all ts x y r.1)

-- two variables of two goals stand in the goals
pub of_two-left : (ts : Trees) (x y : ℕ) → occurs_all x ts ≡ false → of_two_goals x y ts ≡ false
of_two-left none x y h = refl
of_two-left (more t ts) x y h =
    let r = or_none (occurs x t) (occurs_all x ts) h in
    ap₂ (λ a b. a || b) (ap (λ b. b && occurs_all y ts) r.0) (ap₂ (λ a b. a || b) (ap (λ b. occurs y t && b) r.1 ∙ and-false (occurs y t)) (of_two-left ts x y r.1))

-- x stands in one goal alone: y stands in two goals with it where y stands in a goal without x
pub of_two-others : (ts : Trees) (x y : ℕ) → shared x ts ≡ false → of_two_goals x y ts ≡ (occurs_all x ts && has (others (goal_sets ts) x) y)
of_two-others none x y h = refl
of_two-others (more t ts) x y h =
    let r = or_none (occurs x t && occurs_all x ts) (shared x ts) h in
    go (occurs x t) refl r.0 (of_two-others ts x y r.1)
    ∙ ap (λ b. (occurs x t || occurs_all x ts) && b) (sym (has-union (if has (var_set t) x then empty else var_set t) (others (goal_sets ts) x) y
    ∙ ap (λ b. has (if b then empty else var_set t) y || has (others (goal_sets ts) x) y) (has-var_set t x)))
  where
    apart : (a b c d : Bool) → c ≡ (a && d) → ((false && b) || ((false || false) || c)) ≡ (a && (false || d))
    apart true b c d e = e
    apart false b c d e = e

    beside : (a b c d : Bool) → c ≡ (a && d) → ((a || false) && false) ≡ false → ((b && a) || c) ≡ (a && (b || d))
    beside true true c d e k = refl
    beside true false c d e k = e
    beside false true c d e k = e
    beside false false c d e k = e

    go : (v : Bool) → occurs x t ≡ v → (v && occurs_all x ts) ≡ false → of_two_goals x y ts ≡ (occurs_all x ts && has (others (goal_sets ts) x) y)
        → ((occurs x t && occurs_all y ts) || ((occurs y t && occurs_all x ts) || of_two_goals x y ts))
        ≡ ((occurs x t || occurs_all x ts) && (has (if occurs x t then empty else var_set t) y || has (others (goal_sets ts) x) y))
    go true e k i =
        let d = others-all ts x y k in
        let l : ((occurs y t && occurs_all x ts) || of_two_goals x y ts) ≡ false =
        ap₂ (λ a b. (occurs y t && a) || b) k (of_two-left ts x y k) ∙ ap (λ b. b || false) (and-false (occurs y t)) in
        ap₂ (λ a b. (a && occurs_all y ts) || b) e l ∙ or-false (occurs_all y ts) ∙ sym d
        ∙ ap (λ b. b || has (others (goal_sets ts) x) y) (sym (has-empty y))
        ∙ ap (λ a. (a || occurs_all x ts) && (has (if a then empty else var_set t) y || has (others (goal_sets ts) x) y)) (sym e)
    go false e k i =
        ap (λ a. (a && occurs_all y ts) || ((occurs y t && occurs_all x ts) || of_two_goals x y ts)) e
        ∙ beside (occurs_all x ts) (occurs y t) (of_two_goals x y ts) (has (others (goal_sets ts) x) y) i (and-false (occurs_all x ts || false))
        ∙ ap (λ b. occurs_all x ts && (b || has (others (goal_sets ts) x) y)) (sym (has-var_set t y))
        ∙ ap (λ a. (a || occurs_all x ts) && (has (if a then empty else var_set t) y || has (others (goal_sets ts) x) y)) (sym e)

others-in : (ts : Trees) (x y : ℕ) → has (others (goal_sets ts) x) y ≡ true → occurs_all y ts ≡ true
others-in none x y h = absurd (false≢true (sym (has-empty y) ∙ h))
others-in (more t ts) x y h =
    elim (or_cases (has (if has (var_set t) x then empty else var_set t) y) (has (others (goal_sets ts) x) y) (sym (has-union (if has (var_set t) x then empty else var_set t) (others (goal_sets ts) x) y) ∙ h)) [
      | inl k ↦ ap (λ b. b || occurs_all y ts) (sym (has-var_set t y) ∙ mine (has (var_set t) x) k)
      | inr k ↦ right (occurs y t) (others-in ts x y k)
    ]
  where
    mine : (b : Bool) → has (if b then empty else var_set t) y ≡ true → has (var_set t) y ≡ true
    mine true k = absurd (false≢true (sym (has-empty y) ∙ k))
    mine false k = k

    right : (a : Bool) {b : Bool} → b ≡ true → (a || b) ≡ true
    right true k = refl
    right false k = k

-- ---- the whole condition

pub full_is : (goals : Trees) (common alone : ℕ) → ((x : ℕ) → has common x ≡ in_two (goal_sets goals) x)
    → ((x : ℕ) → has alone x ≡ (in_one (goal_sets goals) x && not (in_two (goal_sets goals) x)))
    → map Ground (filter (λ x. has common x) (numbers 255)) ++ flat_map (indeps_among (goal_sets goals) alone) (numbers 255) ≡ full_condition goals
full_is goals common alone c a =
    ap₂ (λ xs ys. map Ground xs ++ ys) (filter_same (λ x. has common x) (λ x. shared x goals) (numbers 255) (λ x. c x ∙ in_two-goals goals x))
    (joined_same (indeps_among (goal_sets goals) alone) (indeps_of goals) (numbers 255) (λ x. same x (has alone x) refl))
  where
    alone_is : (x : ℕ) → has alone x ≡ (occurs_all x goals && not (shared x goals))
    alone_is x = a x ∙ ap₂ (λ p q. p && not q) (in_one-goals goals x) (in_two-goals goals x)

    not_true : (b : Bool) → not b ≡ true → b ≡ false
    not_true true h = absurd (false≢true h)
    not_true false h = refl

    -- l: x is below y; o: y is in another goal; i: y is in a goal; s: y is shared
    pair : (l o i s : Bool) → (o ≡ true → i ≡ true) → (l && (o && (i && not s))) ≡ (l && (not s && o))
    pair l true true true h = refl
    pair l true true false h = refl
    pair l true false s h = absurd (false≢true (h refl))
    pair l false i true h = refl
    pair l false i false h = refl

    same : (x : ℕ) (b : Bool) → has alone x ≡ b → indeps_among (goal_sets goals) alone x ≡ indeps_of goals x
    same x true e =
        let r = and_both (occurs_all x goals) (not (shared x goals)) (sym (alone_is x) ∙ e) in
        let n = not_true (shared x goals) r.1 in
        ap (λ b. if b then indeps_with (both (others (goal_sets goals) x) alone) x else []) e
        ∙ ap (map (Indep x)) (filter_same (λ y. nat_lt x y && has (both (others (goal_sets goals) x) alone) y) (is_pair goals x) (numbers 255) (λ y.
        ap (λ b. nat_lt x y && b) (has-both (others (goal_sets goals) x) alone y ∙ ap (λ b. has (others (goal_sets goals) x) y && b) (alone_is y))
        ∙ pair (nat_lt x y) (has (others (goal_sets goals) x) y) (occurs_all y goals) (shared y goals) (others-in goals x y)
        ∙ ap₂ (λ p q. nat_lt x y && (not p && (not (shared y goals) && q))) (sym n)
        (sym (of_two-others goals x y n ∙ ap (λ b. b && has (others (goal_sets goals) x) y) r.0))))
    same x false e =
        ap (λ b. if b then indeps_with (both (others (goal_sets goals) x) alone) x else []) e
        ∙ sym (ap (map (Indep x)) (filter_none (is_pair goals x) (numbers 255) (λ y. unpaired y (shared x goals) refl (occurs_all x goals) refl)))
      where
        zero_right : (l : Bool) → (l && false) ≡ false
        zero_right true = refl
        zero_right false = refl

        unpaired : (y : ℕ) (s : Bool) → shared x goals ≡ s → (o : Bool) → occurs_all x goals ≡ o → is_pair goals x y ≡ false
        unpaired y true k o q = ap (λ b. nat_lt x y && (not b && (not (shared y goals) && of_two_goals x y goals))) k ∙ zero_right (nat_lt x y)
        unpaired y false k true q = absurd (false≢true (sym e ∙ alone_is x ∙ ap₂ (λ p r. p && not r) q k))
        unpaired y false k false q =
            ap₂ (λ b d. nat_lt x y && (not b && (not (shared y goals) && d))) k (of_two-left goals x y q)
            ∙ ap (λ b. nat_lt x y && b) (zero_right (not (shared y goals))) ∙ zero_right (nat_lt x y)
