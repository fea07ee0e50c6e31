-- Runs of places that are compared.
use Rattle.std.proofs.Common.{◌≡◌, ◌↔◌, ℕ, ◌+◌, ◌-◌, ◌*◌, ◌<◌, ◌≤◌, List, [], ◌∷◌, ◌++◌, sym, ap, ◌∙◌, subst, arith}
use Rattle.ap_term.specs.Tree.{Tree, node, count_trees}
use Rattle.ap_cells.specs.Trees.{tree_at, span}
use Rattle.ap_cells.specs.Walks.{weight, weight_all}
use Rattle.ap_cells.proofs.Walks.{Each-push, Each-pop, span-first, count-span}
use Rattle.ap_cells.proofs.Assumed.{more_head}
use Rattle.ap_cells.specs.declared.pairs.Pairs.{Pairs}
use Rattle.ap_checks.specs.Pairs.{AreSame, AllSame, weight_pairs}

pub weight_pairs-push : (ts : List Tree) (rs : List Pairs) (r : Pairs) → weight_pairs ts (rs ++ r ∷ []) ≡ weight_pairs ts rs + (2 * weight_all (span ts r.left r.count) + 1)
weight_pairs-push ts [] r = omega arith
weight_pairs-push ts (q ∷ rs) r = omega (arith, weight_pairs-push ts rs r)

-- a run put behind others
pub AllSame-push : (ts : List Tree) (rs : List Pairs) (r : Pairs) → AllSame ts (rs ++ r ∷ []) ↔ (AllSame ts rs × AreSame ts r)
AllSame-push ts rs r = (λ s. Each-pop (AreSame ts) rs r s, λ s. Each-push (AreSame ts) rs r s.0 s.1)

-- terms with another number of arguments
pub apart_by_count : (ts : List Tree) (a b p q m n : ℕ) → (m ≡ n → ⊥) → node a (span ts p m) ≡ node b (span ts q n) → ⊥
apart_by_count ts a b p q m n h e = let k : span ts p m ≡ span ts q n = cc in h (sym (count-span ts p m) ∙ ap count_trees k ∙ count-span ts q n)

-- its first pair stands for different trees
pub apart_pairs : (ts : List Tree) (old popped : List Pairs) (r : Pairs) → 0 < r.count → old ≡ popped ++ r ∷ [] → (tree_at ts r.left ≡ tree_at ts r.right → ⊥) → AllSame ts old → ⊥
apart_pairs ts old popped r h e n s =
    let k = (AllSame-push ts popped r).0 (subst (AllSame ts) e s) in
    n (more_head (tree_at ts r.left) (tree_at ts r.right) (span ts (r.left + 1) (r.count - 1)) (span ts (r.right + 1) (r.count - 1)) (sym (span-first ts r.left r.count h) ∙ k.1 ∙ span-first ts r.right r.count h))

pub weight_turn : (ts : List Tree) (old popped rest new : List Pairs) (r : Pairs) → 0 < r.count → old ≡ popped ++ r ∷ []
    → weight_pairs ts rest ≤ weight_pairs ts popped + (2 * weight_all (span ts (r.left + 1) (r.count - 1)) + 1) → weight_pairs ts new < weight_pairs ts rest + 2 * weight (tree_at ts r.left)
    → weight_pairs ts new < weight_pairs ts old
weight_turn ts old popped rest new r h e f g =
    let w = ap (weight_pairs ts) e ∙ weight_pairs-push ts popped r in
    let v = ap weight_all (span-first ts r.left r.count h) in
    omega arith
