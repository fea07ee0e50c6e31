-- Unification, turn by turn, with pairs that are assumed to be equal.
use Rattle.std.proofs.Common.{◌≡◌, ℕ, zero, suc, ◌+◌, ◌-◌, ◌<◌, ◌≤◌, Bool, true, false, List, [], ◌∷◌, ◌++◌, Option, Some, refl, sym, ap, ◌∙◌, subst, arith, inl, inr, length, map, get_or}
use Rattle.std.proofs.lemmas.Bool.{cases_lt}
use Rattle.std.proofs.lemmas.List.{get_or-map, get_or_past, length-map}
use Rattle.ap_term.specs.Tree.{Tree, var, node, none, more}
use Rattle.ap_term.specs.Substitution.{instance, instance_all}
use Rattle.ap_term.specs.Unifier.{Unifies}
use Rattle.ap_term.proofs.Copies.{instance_twice}
use Rattle.ap_term.proofs.Solutions.{instance_same}
use Rattle.ap_cells.specs.Trees.{tree_at, span}
use Rattle.ap_cells.specs.Walks.{weight}
use Rattle.ap_cells.specs.Assumed.{below, IsBelow, AreBelow}
use Rattle.ap_cells.specs.declared.pairs.Pairs.{Pairs}
use Rattle.ap_cells.proofs.Stands.{span-map}
use Rattle.ap_cells.proofs.Walks.{Each-push, Each-pop, span-first}
use Rattle.ap_cells.proofs.Assumed.{below-same, below-none, Look-same, Look-joined, Look-opened, IsBelow-first, more_head, more_tail}
use Rattle.ap_marks.specs.Classes.{Links, Agrees, no_links}
use Rattle.ap_unify.specs.declared.unification.Outcome.{Outcome}
use Rattle.ap_unify.specs.Works.{SolvesRun, SolvesRuns, Unified, Step, Stepped, goes_on, outcome_of, with_args}
use Rattle.ap_unify.specs.Shared.{known, Turn, Turned, Going}
use Rattle.ap_unify.proofs.Works.{map_same}

-- a pair that is assumed already is passed over
pub turn_joined : (ts : List Tree) (rs : List Pairs) (v : Links) (p q : ℕ) → ((f : ℕ → Option Tree) → Agrees f v → f p ≡ f q) → Turn ts ts rs rs v v p q
turn_joined ts rs v p q j = record {
  by = λ x. var x;
  now = map_same ts;
  finds = λ g s k e. (λ x. refl, (s, k));
  looks = λ h. Look-joined (map (instance h) ts) rs v p q j;
}

-- a pair of compound terms is taken apart, and maybe assumed from now on
pub turn_node : (ts : List Tree) (rs : List Pairs) (v u : Links) (p q a i j n : ℕ) → p < length ts → q < length ts → i + n ≤ length ts → j + n ≤ length ts
    → tree_at ts p ≡ node a (span ts i n) → tree_at ts q ≡ node a (span ts j n)
    → ((f : ℕ → Option Tree) → Agrees f u → Agrees f v) → ((f : ℕ → Option Tree) → Agrees f v → f p ≡ f q → Agrees f u)
    → Turn ts ts rs (rs ++ record { left = i; right = j; count = n } ∷ []) v u p q
turn_node ts rs v u p q a i j n lp lq li lj e f older more_links = record {
  by = λ x. var x;
  now = map_same ts;
  finds = λ g s k m. (λ x. refl, (Each-push (SolvesRun g ts) rs r s (apart g (sym (ap (instance g) e) ∙ m ∙ ap (instance g) f)), more_links (known g ts) k (ap Some m)));
  looks = λ h. Look-opened (map (instance h) ts) rs v u p q a i j n (at h p i lp li e) (at h q j lq lj f) older more_links;
}
  where
    r : Pairs
    r = record { left = i; right = j; count = n }

    apart : (g : ℕ → Tree) → node a (instance_all g (span ts i n)) ≡ node a (instance_all g (span ts j n)) → instance_all g (span ts i n) ≡ instance_all g (span ts j n)
    apart g k = cc

    at : (h : ℕ → Tree) (o k : ℕ) → o < length ts → k + n ≤ length ts → tree_at ts o ≡ node a (span ts k n) → tree_at (map (instance h) ts) o ≡ node a (span (map (instance h) ts) k n)
    at h o k lo lk x = get_or-map (instance h) ts o (var o) (var o) lo ∙ ap (instance h) x ∙ sym (ap (node a) (span-map h ts k n lk))

map_twice : (f g : ℕ → Tree) (ts : List Tree) → map (instance g) (map (instance f) ts) ≡ map (instance (λ x. instance g (f x))) ts
map_twice f g [] = refl
map_twice f g (t ∷ ts) = ap (λ u. u ∷ map (instance g) (map (instance f) ts)) (instance_twice f g t) ∙ ap (λ us. instance (λ x. instance g (f x)) t ∷ us) (map_twice f g ts)

pub going_start : (ts : List Tree) (a b : ℕ) → Going ts ts (record { left = a; right = b; count = 1 } ∷ []) no_links a b
going_start ts a b = record {
  by = λ x. var x;
  now = map_same ts;
  finds = λ g u. (λ x. refl, ((ap (λ t. more t none) u, tt), λ k h. absurd (omega arith)));
  begun = λ h w s g.
      let vs = map (instance h) ts in
      let x : a ≡ a + 0 = omega arith in
      let y : b ≡ b + 0 = omega arith in
      ap (below vs w) x ∙ s.0 0 (omega arith) ∙ sym (ap (below vs w) y);
  closes = λ h w s g k l. absurd (omega arith);
}

-- one run with what became of its first pair
pub going_turn : (ts us vs : List Tree) (old popped left new : List Pairs) (v u : Links) (r : Pairs) (a b : ℕ) → Going ts us old v a b → 0 < r.count → old ≡ popped ++ r ∷ []
    → ((g : ℕ → Tree) → SolvesRuns g us popped → instance_all g (span us (r.left + 1) (r.count - 1)) ≡ instance_all g (span us (r.right + 1) (r.count - 1)) → SolvesRuns g us left)
    → ((ws : List Tree) (w : ℕ) → AreBelow ws w left → AreBelow ws w popped × IsBelow ws w (record { left = r.left + 1; right = r.right + 1; count = r.count - 1 }))
    → Turn us vs left new v u r.left r.right → Going ts vs new u a b
going_turn ts us vs old popped left new v u r a b G k e in' split t = record {
  by = λ z. instance t.by (G.by z);
  now = t.now ∙ ap (map (instance t.by)) G.now ∙ map_twice G.by t.by ts;
  finds = λ g o.
      let p = G.finds g o in
      let q = Each-pop (SolvesRun g us) popped r (subst (SolvesRuns g us) e p.1.0) in
      let s = run_split g q.1 in
      let w = t.finds g (in' g q.0 s.1) p.1.1 s.0 in
      (λ z. instance_twice t.by g (G.by z) ∙ instance_same (λ y. instance g (t.by y)) g (G.by z) w.0 ∙ p.0 z, w.1);
  begun = λ h w s g. subst (λ ws. below ws w a ≡ below ws w b) (sym (same h)) (G.begun (after h) w (back h w s g) (subst (λ ws. Agrees (below ws w) v) (same h) ((t.looks h).older w g)));
  closes = λ h w s g.
      (t.looks h).closes w s (subst (λ ws. Agrees (below ws (suc w)) v) (sym (same h)) (G.closes (after h) w (back h w s g) (subst (λ ws. Agrees (below ws w) v) (same h) ((t.looks h).older w g))));
}
  where
    after : (ℕ → Tree) → ℕ → Tree
    after h = λ z. instance h (t.by z)

    -- the instances are the same trees
    same : (h : ℕ → Tree) → map (instance h) vs ≡ map (instance (after h)) us
    same h = ap (map (instance h)) t.now ∙ map_twice t.by h us

    back : (h : ℕ → Tree) (w : ℕ) → AreBelow (map (instance h) vs) w new → Agrees (below (map (instance h) vs) w) u → AreBelow (map (instance (after h)) us) w old
    back h w s g =
        let ws = map (instance h) vs in
        let c = split ws w ((t.looks h).pairs w s g) in
        subst (λ xs. AreBelow xs w old) (same h) (subst (AreBelow ws w) (sym e) (Each-push (IsBelow ws w) popped r c.0 (IsBelow-first ws w r ((t.looks h).pair w s g) c.1)))

    run_split : (h : ℕ → Tree) → SolvesRun h us r
        → (instance h (tree_at us r.left) ≡ instance h (tree_at us r.right)) × (instance_all h (span us (r.left + 1) (r.count - 1)) ≡ instance_all h (span us (r.right + 1) (r.count - 1)))
    run_split h s =
        let d : more (instance h (tree_at us r.left)) (instance_all h (span us (r.left + 1) (r.count - 1))) ≡ more (instance h (tree_at us r.right)) (instance_all h (span us (r.right + 1) (r.count - 1)))
        = sym (ap (instance_all h) (span-first us r.left r.count k)) ∙ s ∙ ap (instance_all h) (span-first us r.right r.count k) in
        (more_head _ _ _ _ d, more_tail _ _ _ _ d)

-- nothing is left: what is assumed holds, up to any weight, and so the two terms are one
pub going_end : (ts us : List Tree) (v : Links) (a b : ℕ) → Going ts us [] v a b → a < length ts → b < length ts → Unified ts us (tree_at ts a) (tree_at ts b)
going_end ts us v a b G x y = record {
  by = G.by;
  now = G.now;
  unifies = at a x ∙ one ∙ sym (at b y);
  general = λ g u. (G.finds g u).0;
}
  where
    here : List Tree
    here = map (instance (λ z. var z)) us

    all : (w : ℕ) → Agrees (below here w) v
    all zero = λ k h. below-none here (get_or v.froms k 0) (get_or v.tos k 0)
    all (suc w) = G.closes (λ z. var z) w tt (all w)

    most : ℕ
    most = weight (tree_at here a) + 1

    met : tree_at here a ≡ tree_at here b
    met = below-same here most a b (G.begun (λ z. var z) most tt (all most)) (omega arith)

    one : tree_at us a ≡ tree_at us b
    one = subst (λ ws. tree_at ws a ≡ tree_at ws b) (sym (map_same us)) met

    at : (i : ℕ) → i < length ts → instance G.by (tree_at ts i) ≡ tree_at us i
    at i l = sym (ap (λ ws. tree_at ws i) G.now ∙ get_or-map (instance G.by) ts i (var i) (var i) l)

-- a map that is the same after another one
known_same : (g f : ℕ → Tree) (ts us : List Tree) (v : Links) → us ≡ map (instance f) ts → ((x : ℕ) → instance g (f x) ≡ g x) → Agrees (known g ts) v → Agrees (known g us) v
known_same g f ts us v e a k i l = at (get_or v.froms i 0) ∙ k i l ∙ sym (at (get_or v.tos i 0))
  where
    at : (j : ℕ) → known g us j ≡ known g ts j
    at j = ap Some (elim (cases_lt j (length ts)) [
      | inl h ↦ ap (λ ws. instance g (tree_at ws j)) e ∙ ap (instance g) (get_or-map (instance f) ts j (var j) (var j) h) ∙ instance_twice f g (tree_at ts j) ∙ instance_same (λ x. instance g (f x)) g (tree_at ts j) a
      | inr h ↦
          ap (λ ws. instance g (tree_at ws j)) e ∙ ap (instance g) (get_or_past (map (instance f) ts) j (var j) (omega (arith, length-map ts (instance f)))) ∙ sym (ap (instance g) (get_or_past ts j (var j) (omega arith)))
    ])

-- a pair that is solved whatever else is left
lifted : (ts us : List Tree) (rs : List Pairs) (v : Links) (p q : ℕ) → p < length ts → q < length ts → Step ts us rs rs p q → Step ts us [] [] p q → Turn ts us rs rs v v p q
lifted ts us rs v p q lp lq t o = record {
  by = t.by;
  now = t.now;
  finds = λ g s k e. let w = t.finds g s e in (w.0, (w.1, known_same g t.by ts us v t.now w.0 k));
  looks = λ h. Look-same (map (instance h) us) rs v p q (at h p lp ∙ (o.solves h tt).1 ∙ sym (at h q lq));
}
  where
    at : (h : ℕ → Tree) (i : ℕ) → i < length ts → tree_at (map (instance h) us) i ≡ instance (λ x. instance h (o.by x)) (tree_at ts i)
    at h i l =
        ap (λ ws. tree_at (map (instance h) ws) i) o.now ∙ ap (λ ws. tree_at ws i) (map_twice o.by h ts) ∙ get_or-map (instance (λ x. instance h (o.by x))) ts i (var i) (var i) l

pub turned_lifted : (ts us : List Tree) (rs : List Pairs) (v : Links) (p q n : ℕ) (b : Bool) → length ts ≡ n → p < n → q < n → Stepped ts us rs rs p q b → Stepped ts us [] [] p q b → Turned ts us rs rs v v p q b
turned_lifted ts us rs v p q n true z lp lq t o = lifted ts us rs v p q (omega arith) (omega arith) t o
turned_lifted ts us rs v p q n false z lp lq t o = t

pub going_zero : (ts us : List Tree) (old popped : List Pairs) (v : Links) (r : Pairs) (a b : ℕ) → Going ts us old v a b → old ≡ popped ++ r ∷ [] → r.count ≡ 0 → Going ts us popped v a b
going_zero ts us old popped v r a b G e z = record {
  by = G.by;
  now = G.now;
  finds = λ g u. let p = G.finds g u in (p.0, ((Each-pop (SolvesRun g us) popped r (subst (SolvesRuns g us) e p.1.0)).0, p.1.1));
  begun = λ h w s g. G.begun h w (back h w s) g;
  closes = λ h w s g. G.closes h w (back h w s) g;
}
  where
    back : (h : ℕ → Tree) (w : ℕ) → AreBelow (map (instance h) us) w popped → AreBelow (map (instance h) us) w old
    back h w s = let ws = map (instance h) us in subst (AreBelow ws w) (sym e) (Each-push (IsBelow ws w) popped r s (λ k i. absurd (omega arith)))

pub going_fail : (ts us : List Tree) (old popped : List Pairs) (v : Links) (r : Pairs) (a b : ℕ) → Going ts us old v a b → 0 < r.count → old ≡ popped ++ r ∷ []
    → ((g : ℕ → Tree) → instance g (tree_at us r.left) ≡ instance g (tree_at us r.right) → ⊥) → (g : ℕ → Tree) → Unifies g (tree_at ts a) (tree_at ts b) → ⊥
going_fail ts us old popped v r a b G k e n g u =
    let s = (Each-pop (SolvesRun g us) popped r (subst (SolvesRuns g us) e (G.finds g u).1.0)).1 in
    n g (more_head _ _ _ _ (sym (ap (instance_all g) (span-first us r.left r.count k)) ∙ s ∙ ap (instance_all g) (span-first us r.right r.count k)))

pub going_ends : (ts us : List Tree) (rs : List Pairs) (v : Links) (a b : ℕ) → Going ts us rs v a b → rs ≡ [] → a < length ts → b < length ts → Unified ts us (tree_at ts a) (tree_at ts b)
going_ends ts us rs v a b G e x y = going_end ts us v a b (subst (λ qs. Going ts us qs v a b) e G) x y

-- a pair whose place is bound, or can't be
pub outcome_turned : (ts us : List Tree) (rs : List Pairs) (v : Links) (p q : ℕ) (b : Bool) (o : Outcome) → o ≡ outcome_of b → Turned ts us rs rs v v p q b → Turned ts us rs (with_args o rs) v v p q (goes_on o)
outcome_turned ts us rs v p q true o e t = subst (λ w. Turned ts us rs (with_args w rs) v v p q (goes_on w)) (sym e) t
outcome_turned ts us rs v p q false o e t = subst (λ w. Turned ts us rs (with_args w rs) v v p q (goes_on w)) (sym e) t
