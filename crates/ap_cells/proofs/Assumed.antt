-- Pairs of places that are assumed to be equal.
use Rattle.std.proofs.Common.{◌≡◌, ℕ, zero, suc, ◌+◌, ◌-◌, ◌<◌, ◌≤◌, nat_lt, List, [], ◌∷◌, ◌++◌, Option, Some, None, refl, sym, ap, ◌∙◌, arith, inl, inr, if◌then◌else◌}
use Rattle.std.proofs.lemmas.Bool.{cases_lt, lt-ltb, le-ltb}
use Rattle.ap_term.specs.Tree.{Tree, Trees, node, more}
use Rattle.ap_marks.specs.Classes.{Links, Agrees}
use Rattle.ap_cells.specs.Trees.{tree_at, span}
use Rattle.ap_cells.specs.Walks.{weight, weight_all}
use Rattle.ap_cells.specs.Assumed.{below, IsBelow, AreBelow, Look}
use Rattle.ap_cells.specs.declared.pairs.Pairs.{Pairs}
use Rattle.ap_cells.proofs.Walks.{Each-pop}

-- a tree lighter than w is seen, another one isn't
pub below-light : (ts : List Tree) (w i : ℕ) → weight (tree_at ts i) < w → below ts w i ≡ Some (tree_at ts i)
below-light ts w i h = ap (λ b. if b then Some (tree_at ts i) else None) (lt-ltb (weight (tree_at ts i)) w h)

pub below-heavy : (ts : List Tree) (w i : ℕ) → w ≤ weight (tree_at ts i) → below ts w i ≡ None
below-heavy ts w i h = ap (λ b. if b then Some (tree_at ts i) else None) (le-ltb (weight (tree_at ts i)) w h)

some_same : (t u : Tree) → Some t ≡ Some u → t ≡ u
some_same t u e = cc

some_none : (t : Tree) → Some t ≡ None → ⊥
some_none t e = cc

-- what is seen to be equal is equal
pub below-same : (ts : List Tree) (w i j : ℕ) → below ts w i ≡ below ts w j → weight (tree_at ts i) < w → tree_at ts i ≡ tree_at ts j
below-same ts w i j e h = elim (cases_lt (weight (tree_at ts j)) w) [
  | inl l ↦ some_same (tree_at ts i) (tree_at ts j) (sym (below-light ts w i h) ∙ e ∙ below-light ts w j l)
  | inr g ↦ absurd (some_none (tree_at ts i) (sym (below-light ts w i h) ∙ e ∙ below-heavy ts w j (omega arith)))
]

pub below-equal : (ts : List Tree) (w i j : ℕ) → tree_at ts i ≡ tree_at ts j → below ts w i ≡ below ts w j
below-equal ts w i j e = ap (λ t. if nat_lt (weight t) w then Some t else None) e

-- equal below more is equal below less
pub below-less : (ts : List Tree) (v w i j : ℕ) → v ≤ w → below ts w i ≡ below ts w j → below ts v i ≡ below ts v j
below-less ts v w i j h e = elim (cases_lt (weight (tree_at ts i)) w) [
  | inl l ↦ below-equal ts v i j (below-same ts w i j e l)
  | inr g ↦ elim (cases_lt (weight (tree_at ts j)) w) [
    | inl l ↦ below-equal ts v i j (sym (below-same ts w j i (sym e) l))
    | inr k ↦ below-heavy ts v i (omega arith) ∙ sym (below-heavy ts v j (omega arith))
  ]
]

-- some places whose trees are equal below more than they weigh
pub span-below : (ts : List Tree) (w p q n : ℕ) → ((k : ℕ) → k < n → below ts w (p + k) ≡ below ts w (q + k)) → weight_all (span ts p n) < w → span ts p n ≡ span ts q n
span-below ts w p q zero h l = refl
span-below ts w p q (suc n) h l =
    let e : below ts w p ≡ below ts w q = (let a : p ≡ p + 0 = omega arith in let b : q ≡ q + 0 = omega arith in ap (below ts w) a ∙ h 0 (omega arith) ∙ sym (ap (below ts w) b)) in
    let first = below-same ts w p q e (omega arith) in
    let rest = span-below ts w (p + 1) (q + 1) n
    (λ k i. let a : (p + 1) + k ≡ p + (k + 1) = omega arith in let b : (q + 1) + k ≡ q + (k + 1) = omega arith in ap (below ts w) a ∙ h (k + 1) (omega arith) ∙ sym (ap (below ts w) b))
    (omega arith) in
    ap (λ t. more t (span ts (p + 1) n)) first ∙ ap (more (tree_at ts q)) rest

-- terms of one name whose arguments are equal below w are equal below w + 1
pub below-args : (ts : List Tree) (w i j a p q n : ℕ) → tree_at ts i ≡ node a (span ts p n) → tree_at ts j ≡ node a (span ts q n)
    → ((k : ℕ) → k < n → below ts w (p + k) ≡ below ts w (q + k)) → below ts (suc w) i ≡ below ts (suc w) j
below-args ts w i j a p q n e f h =
    let we = ap weight e in
    let wf = ap weight f in
    elim (cases_lt (weight (tree_at ts i)) (suc w)) [
      | inl l ↦ below-equal ts (suc w) i j (e ∙ ap (node a) (span-below ts w p q n h (omega arith)) ∙ sym f)
      | inr g ↦ elim (cases_lt (weight (tree_at ts j)) (suc w)) [
        | inl l ↦ below-equal ts (suc w) i j (e ∙ sym (ap (node a) (span-below ts w q p n (λ k m. sym (h k m)) (omega arith))) ∙ sym f)
        | inr k ↦ below-heavy ts (suc w) i (omega arith) ∙ sym (below-heavy ts (suc w) j (omega arith))
      ]
    ]

-- nothing is lighter than nothing
pub below-none : (ts : List Tree) (i j : ℕ) → below ts 0 i ≡ below ts 0 j
below-none ts i j = below-heavy ts 0 i (omega arith) ∙ sym (below-heavy ts 0 j (omega arith))

-- a pair that is one tree
pub Look-same : (ts : List Tree) (rs : List Pairs) (v : Links) (p q : ℕ) → tree_at ts p ≡ tree_at ts q → Look ts rs rs v v p q
Look-same ts rs v p q e = record { pairs = λ w b g. b; pair = λ w b g. below-equal ts w p q e; older = λ w g. g; closes = λ w b g. g }

-- a pair that is assumed already
pub Look-joined : (ts : List Tree) (rs : List Pairs) (v : Links) (p q : ℕ) → ((f : ℕ → Option Tree) → Agrees f v → f p ≡ f q) → Look ts rs rs v v p q
Look-joined ts rs v p q j = record { pairs = λ w b g. b; pair = λ w b g. j (below ts w) g; older = λ w g. g; closes = λ w b g. g }

-- a pair that is taken apart, and maybe assumed from now on
pub Look-opened : (ts : List Tree) (rs : List Pairs) (v u : Links) (p q a l r n : ℕ) → tree_at ts p ≡ node a (span ts l n) → tree_at ts q ≡ node a (span ts r n)
    → ((f : ℕ → Option Tree) → Agrees f u → Agrees f v) → ((f : ℕ → Option Tree) → Agrees f v → f p ≡ f q → Agrees f u)
    → Look ts rs (rs ++ record { left = l; right = r; count = n } ∷ []) v u p q
Look-opened ts rs v u p q a l r n e f older more_links = record {
  pairs = λ w b g. (Each-pop (IsBelow ts w) rs args b).0;
  pair = λ w b g. below-less ts w (suc w) p q (omega arith) (up w b);
  older = λ w g. older (below ts w) g;
  closes = λ w b g. more_links (below ts (suc w)) g (up w b);
}
  where
    args : Pairs
    args = record { left = l; right = r; count = n }

    up : (w : ℕ) → AreBelow ts w (rs ++ args ∷ []) → below ts (suc w) p ≡ below ts (suc w) q
    up w b = below-args ts w p q a l r n e f (λ k i. (Each-pop (IsBelow ts w) rs args b).1 k i)

-- the first pair of a run, and the others
pub IsBelow-first : (ts : List Tree) (w : ℕ) (r : Pairs) → below ts w r.left ≡ below ts w r.right → IsBelow ts w (record { left = r.left + 1; right = r.right + 1; count = r.count - 1 }) → IsBelow ts w r
IsBelow-first ts w r e h zero i = let a : r.left + 0 ≡ r.left = omega arith in let b : r.right + 0 ≡ r.right = omega arith in ap (below ts w) a ∙ e ∙ sym (ap (below ts w) b)
IsBelow-first ts w r e h (suc k) i =
    let a : r.left + suc k ≡ (r.left + 1) + k = omega arith in
    let b : r.right + suc k ≡ (r.right + 1) + k = omega arith in
    ap (below ts w) a ∙ h k (omega arith) ∙ sym (ap (below ts w) b)

-- what equal lists of trees begin with, and what is behind it
pub more_head : (t u : Tree) (us vs : Trees) → more t us ≡ more u vs → t ≡ u
more_head t u us vs k = cc

pub more_tail : (t u : Tree) (us vs : Trees) → more t us ≡ more u vs → us ≡ vs
more_tail t u us vs k = cc
