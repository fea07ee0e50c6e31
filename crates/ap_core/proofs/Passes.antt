-- Lists of predicates that passes over clauses grow.
use Rattle.std.proofs.Common.{◌≡◌, ◌⊎◌, inl, inr, ℕ, zero, suc, ◌+◌, ◌<◌, ◌≤◌, Bool, true, false, ◌||◌, not, if◌then◌else◌, List, [], ◌∷◌, ◌++◌, map, Option, Some, None, refl, ap, ap₂, sym, ◌∙◌, subst, length, drop, take, get_or, arith}
use Rattle.std.specs.List.{list_any, All}
use Rattle.std.proofs.lemmas.Bool.{false≢true, eqb-true, eq-eqb, and_parts, and_from, or_cases, or_left, or_right}
use Rattle.std.proofs.lemmas.List.{drop_more}
use Rattle.std.proofs.lemmas.List.Elements.{All-head, All-tail, All-more}
use Rattle.std.proofs.lemmas.List.Folds.{list_any-append}
use Rattle.std.proofs.Math.Bool.{or_assoc}
use Rattle.ap_term.specs.declared.clauses.Part as code
use Rattle.ap_term.specs.GoalView.{part_of}
use Rattle.ap_term.specs.Tree.{Tree, Trees, none, more, append_trees}
use Rattle.ap_term.specs.Goals.{Part, call, group, Clause, Program, plain_goals}
use Rattle.ap_term.specs.WellFormed.{callable}
use Rattle.ap_term.specs.Loud.{Predicate, predicate_of, is_arithmetic, same_predicate, calls_one, IsMember, IsGoal, IsLoud, by_itself, by_call}
use Rattle.ap_term.proofs.TermLists.{trees_of-drop_more}
use Rattle.ap_core.specs.Telling.{told}
use Rattle.ap_core.specs.Heeding.{TellsJust}
use Rattle.ap_core.specs.Passes.{is_listed, some_calls, calls_in, AreLoud, IsClosed, unlisted, Adds, Passes}

-- ---- goals that are arithmetic, or of a listed predicate

-- what has no predicate isn't of a listed one
pub unnamed : (qs : List Predicate) → list_any (same_predicate None) qs ≡ false
unnamed [] = refl
unnamed (q ∷ qs) = unnamed qs

some_calls-append : (qs : List Predicate) (ts us : Trees) → some_calls qs (append_trees ts us) ≡ (some_calls qs ts || some_calls qs us)
some_calls-append qs none us = refl
some_calls-append qs (more t ts) us = ap (λ b. calls_one qs t || b) (some_calls-append qs ts us) ∙ sym (or_assoc (calls_one qs t) (some_calls qs ts) (some_calls qs us))

some_calls-part : (qs : List Predicate) (x : Part) (xs : List Part) → some_calls qs (plain_goals (x ∷ xs)) ≡ (calls_in qs x || some_calls qs (plain_goals xs))
some_calls-part qs (call t) xs = refl
some_calls-part qs (group cs ts) xs = some_calls-append qs ts (plain_goals xs)

pub some_calls-drop_more : (qs : List Predicate) (xs : List code.Part) (i : ℕ) (x : code.Part) → i < length xs → x ≡ get_or xs i x
    → some_calls qs (plain_goals (map part_of (drop i xs))) ≡ (calls_in qs (part_of x) || some_calls qs (plain_goals (map part_of (drop (i + 1) xs))))
some_calls-drop_more qs xs i x h e =
    ap (λ ys. some_calls qs (plain_goals (map part_of ys))) (drop_more xs i x h) ∙ ap (λ y. some_calls qs (plain_goals (part_of y ∷ map part_of (drop (i + 1) xs)))) (sym e)
    ∙ some_calls-part qs (part_of x) (map part_of (drop (i + 1) xs))

pub ruleset call_rows = (trees_of-drop_more, some_calls-drop_more)

-- ---- a list with one more

same_predicate-Some : (o : Option Predicate) (q : Predicate) → same_predicate o q ≡ true → o ≡ Some q
same_predicate-Some None q h = absurd (false≢true h)
same_predicate-Some (Some p) q h = let r = and_parts _ _ h in ap Some (ap₂ (λ a n. (a, n)) (eqb-true p.0 q.0 r.0) (eqb-true p.1 q.1 r.1))

same_predicate-itself : (q : Predicate) → same_predicate (Some q) q ≡ true
same_predicate-itself q = and_from _ _ (eq-eqb q.0 q.0 refl) (eq-eqb q.1 q.1 refl)

is_listed-more : (qs : List Predicate) (q : Predicate) (g : Tree) → is_listed qs g ≡ true → is_listed (qs ++ q ∷ []) g ≡ true
is_listed-more qs q g h = list_any-append (same_predicate (predicate_of g)) qs (q ∷ []) ∙ or_left _ _ h

is_listed-last : (qs : List Predicate) (q : Predicate) (g : Tree) → predicate_of g ≡ Some q → is_listed (qs ++ q ∷ []) g ≡ true
is_listed-last qs q g h =
    list_any-append (same_predicate (predicate_of g)) qs (q ∷ []) ∙ or_right _ _ (or_left _ _ (ap (λ o. same_predicate o q) h ∙ same_predicate-itself q))

-- it was listed, or is the last one
was_listed : (qs : List Predicate) (q : Predicate) (g : Tree) → is_listed (qs ++ q ∷ []) g ≡ true → (is_listed qs g ≡ true) ⊎ (predicate_of g ≡ Some q)
was_listed qs q g h = first (or_cases _ _ (sym (list_any-append (same_predicate (predicate_of g)) qs (q ∷ [])) ∙ h))
  where
    last : ((same_predicate (predicate_of g) q ≡ true) ⊎ (false ≡ true)) → predicate_of g ≡ Some q
    last (inl e) = same_predicate-Some (predicate_of g) q e
    last (inr e) = absurd (false≢true e)

    first : (is_listed qs g ≡ true) ⊎ (list_any (same_predicate (predicate_of g)) (q ∷ []) ≡ true) → (is_listed qs g ≡ true) ⊎ (predicate_of g ≡ Some q)
    first (inl e) = inl e
    first (inr e) = inr (last (or_cases _ _ e))

-- ---- all that is listed is loud

calls_one-loud : (p : Program) (qs : List Predicate) → AreLoud p qs → (g : Tree) → calls_one qs g ≡ true → IsLoud p g
calls_one-loud p qs h g e = go (or_cases _ _ e)
  where
    go : (is_arithmetic g ≡ true) ⊎ (is_listed qs g ≡ true) → IsLoud p g
    go (inl k) = by_itself k
    go (inr k) = h g k

loud_goal : (p : Program) (qs : List Predicate) → AreLoud p qs → (ts : Trees) → some_calls qs ts ≡ true → (g : Tree) × (IsGoal g ts × IsLoud p g)
loud_goal p qs h none e = absurd (false≢true e)
loud_goal p qs h (more t ts) e = go (or_cases _ _ e) (λ k. loud_goal p qs h ts k)
  where
    go : (calls_one qs t ≡ true) ⊎ (some_calls qs ts ≡ true) → (some_calls qs ts ≡ true → (g : Tree) × (IsGoal g ts × IsLoud p g)) → (g : Tree) × (IsGoal g (more t ts) × IsLoud p g)
    go (inl k) rec = (t, (inl refl, calls_one-loud p qs h t k))
    go (inr k) rec = let x = rec k in (x.0, (inr x.1.0, x.1.1))

pub AreLoud-Adds : (p : Program) (c : Clause) (b : Bool) (old new : List Predicate) → IsMember c p → Adds c b old new → AreLoud p old → AreLoud p new
AreLoud-Adds p c false old new m a h = subst (AreLoud p) (sym a.0) h
AreLoud-Adds p c true old new m a h = subst (AreLoud p) (sym a.1.1) (λ g e. go g (was_listed old a.0 g e))
  where
    go : (g : Tree) → (is_listed old g ≡ true) ⊎ (predicate_of g ≡ Some a.0) → IsLoud p g
    go g (inl k) = h g k
    go g (inr k) = let x = loud_goal p old h (plain_goals c.body) a.1.0.2 in by_call c m (k ∙ sym a.1.0.0) x.1.0 x.1.1

pub member_at : (p : Program) (i : ℕ) (c : Clause) → i < length p → c ≡ get_or p i c → IsMember c p
member_at [] i c h e = absurd (omega (arith, h))
member_at (d ∷ p) zero c h e = inl e
member_at (d ∷ p) (suc i) c h e = inr (member_at p i c (omega (arith, h)) e)

-- ---- fewer clauses are unlisted

abbrev weight : Bool → ℕ
weight b = if b then 0 else 1

lighter : (a b : Bool) → (a ≡ true → b ≡ true) → weight b ≤ weight a
lighter true b h = subst (λ x. weight x ≤ 0) (sym (h refl)) (omega arith)
lighter false true h = omega arith
lighter false false h = omega arith

unlisted-more : (p : Program) (qs : List Predicate) (q : Predicate) → unlisted (qs ++ q ∷ []) p ≤ unlisted qs p
unlisted-more [] qs q = omega arith
unlisted-more (c ∷ p) qs q =
    let here = lighter (is_listed qs c.head) (is_listed (qs ++ q ∷ []) c.head) (is_listed-more qs q c.head) in
    let there = unlisted-more p qs q in omega (arith, here, there)

unlisted-fewer : (p : Program) (c : Clause) (qs : List Predicate) (q : Predicate) → IsMember c p → predicate_of c.head ≡ Some q → is_listed qs c.head ≡ false → unlisted (qs ++ q ∷ []) p < unlisted qs p
unlisted-fewer [] c qs q m e h = absurd m
unlisted-fewer (d ∷ p) c qs q (inl s) e h =
    let after : weight (is_listed (qs ++ q ∷ []) d.head) ≡ 0 = ap weight (is_listed-last qs q d.head (ap (λ x. predicate_of x.head) (sym s) ∙ e)) in
    let before : weight (is_listed qs d.head) ≡ 1 = ap weight (ap (λ x. is_listed qs x.head) (sym s) ∙ h) in
    let there = unlisted-more p qs q in omega (arith, after, before, there)
unlisted-fewer (d ∷ p) c qs q (inr m) e h =
    let here = lighter (is_listed qs d.head) (is_listed (qs ++ q ∷ []) d.head) (is_listed-more qs q d.head) in
    let there = unlisted-fewer p c qs q m e h in omega (arith, here, there)

Adds-fewer : (p : Program) (c : Clause) (old new : List Predicate) → IsMember c p → Adds c true old new → unlisted new p < unlisted old p
Adds-fewer p c old new m a = subst (λ qs. unlisted qs p < unlisted old p) (sym a.1.1) (unlisted-fewer p c old a.0 m a.1.0.0 a.1.0.1)

-- ---- a pass

pub pass-turn : (p : Program) (i : ℕ) (c : Clause) (b d : Bool) (old now new : List Predicate) → i < length p → c ≡ get_or p i c → Adds c d now new → Passes p (take i p) b old now → Passes p (take (i + 1) p) (b || d) old new
pass-turn p i c true true old now new h e a k = let f = Adds-fewer p c now new (member_at p i c h e) a in omega (arith, f, k)
pass-turn p i c true false old now new h e a k = subst (λ qs. unlisted qs p < unlisted old p) (sym a.0) k
pass-turn p i c false true old now new h e a k = subst (λ qs. unlisted new p < unlisted qs p) k.0 (Adds-fewer p c now new (member_at p i c h e) a)
pass-turn p i c false false old now new h e a k =
    (a.0 ∙ k.0, All-more (IsClosed old) p i c h k.1 (subst (IsClosed old) e (subst (λ qs. IsClosed qs c) k.0 a.1)))

-- ---- a closed list of loud predicates

All-member : (P : Clause → Type 0) (p : Program) (c : Clause) → All P p → IsMember c p → P c
All-member P [] c h m = absurd m
All-member P (d ∷ p) c h (inl e) = subst P (sym e) (All-head P d p h)
All-member P (d ∷ p) c h (inr m) = All-member P p c (All-tail P d p h) m

some_calls-goal : (qs : List Predicate) (g : Tree) (ts : Trees) → IsGoal g ts → calls_one qs g ≡ true → some_calls qs ts ≡ true
some_calls-goal qs g none i e = absurd i
some_calls-goal qs g (more t ts) (inl s) e = or_left _ _ (ap (calls_one qs) (sym s) ∙ e)
some_calls-goal qs g (more t ts) (inr i) e = or_right _ _ (some_calls-goal qs g ts i e)

calls_one-closed : (p : Program) (qs : List Predicate) → All (IsClosed qs) p → (g : Tree) → IsLoud p g → calls_one qs g ≡ true
calls_one-closed p qs h g (by_itself e) = or_left _ _ e
calls_one-closed p qs h g (by_call {h = k} c m e i l) =
    or_right _ _ (ap (λ o. list_any (same_predicate o) qs) e ∙ All-member (IsClosed qs) p c h m (some_calls-goal qs k (plain_goals c.body) i (calls_one-closed p qs h k l)))

-- it tells just the least set
pub tells_just : (p : Program) (qs : List Predicate) → AreLoud p qs → All (IsClosed qs) p → TellsJust (told qs) p
tells_just p qs loud closed = (
  (λ g e. or_left _ _ (ap not e), λ g l. or_right _ _ (calls_one-closed p qs closed g l)),
  λ g e k. go g e (or_cases _ _ k),
)
  where
    go : (g : Tree) → callable g ≡ true → (not (callable g) ≡ true) ⊎ (calls_one qs g ≡ true) → IsLoud p g
    go g e (inl k) = absurd (false≢true (sym (ap not e) ∙ k))
    go g e (inr k) = calls_one-loud p qs loud g k
