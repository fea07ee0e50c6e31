-- Lists of places that are still to be walked over.
use Rattle.std.proofs.Common.{◌≡◌, ℕ, zero, suc, ◌+◌, ◌-◌, ◌*◌, ◌<◌, ◌≤◌, Bool, true, false, nat_eq, List, [], ◌∷◌, ◌++◌, refl, sym, ap, arith}
use Rattle.ap_term.specs.Tree.{Tree, var, int, atom, node, more, count_trees}
use Rattle.ap_term.specs.Vars.{occurs}
use Rattle.ap_term.proofs.Solutions.{same_var}
use Rattle.ap_cells.specs.Trees.{tree_at, span}
use Rattle.ap_cells.specs.declared.walk.Range.{Range}
use Rattle.ap_cells.specs.Walks.{Each, weight, weight_all, weight_in}

pub Each-push : {X : Type 0} (P : X → Type 0) (xs : List X) (x : X) → Each P xs → P x → Each P (xs ++ x ∷ [])
Each-push P [] x e p = (p, tt)
Each-push P (y ∷ xs) x e p = (e.0, Each-push P xs x e.1 p)

pub Each-pop : {X : Type 0} (P : X → Type 0) (xs : List X) (x : X) → Each P (xs ++ x ∷ []) → Each P xs × P x
Each-pop P [] x e = (tt, e.0)
Each-pop P (y ∷ xs) x e = let k = Each-pop P xs x e.1 in ((e.0, k.0), k.1)

pub weight_in-push : (ts : List Tree) (rs : List Range) (r : Range) → weight_in ts (rs ++ r ∷ []) ≡ weight_in ts rs + (2 * weight_all (span ts r.first r.count) + 1)
weight_in-push ts [] r = omega arith
weight_in-push ts (q ∷ rs) r = omega (arith, weight_in-push ts rs r)

pub weight-some : (t : Tree) → 0 < weight t
weight-some (var x) = omega arith
weight-some (int z) = omega arith
weight-some (atom a) = omega arith
weight-some (node a ts) = omega arith

pub count-span : (ts : List Tree) (p n : ℕ) → count_trees (span ts p n) ≡ n
count-span ts p zero = refl
count-span ts p (suc n) = let k = count-span ts (p + 1) n in omega arith

-- the first of some places, and the others
pub span-first : (ts : List Tree) (p n : ℕ) → 0 < n → span ts p n ≡ more (tree_at ts p) (span ts (p + 1) (n - 1))
span-first ts p zero h = absurd (omega arith)
span-first ts p (suc n) h = let e : n ≡ suc n - 1 = omega arith in ap (λ m. more (tree_at ts p) (span ts (p + 1) m)) e

-- the places after the first weigh no more
pub weight-behind : (ts : List Tree) (run rest : Range) → 0 < run.count → rest ≡ record { first = run.first + 1; count = run.count - 1 } → weight_all (span ts rest.first rest.count) ≤ weight_all (span ts run.first run.count)
weight-behind ts run rest h e =
    let k = ap (λ r. weight_all (span ts r.first r.count)) e in
    let l = ap weight_all (span-first ts run.first run.count h) in
    omega arith

-- the first place's arguments and the places behind it weigh less
pub weight-opened : (ts : List Tree) (run : Range) (a q m : ℕ) → 0 < run.count → tree_at ts run.first ≡ node a (span ts q m)
    → weight_all (span ts q m) + weight_all (span ts (run.first + 1) (run.count - 1)) < weight_all (span ts run.first run.count)
weight-opened ts run a q m h e =
    let k = ap weight e in
    let l = ap weight_all (span-first ts run.first run.count h) in
    omega arith

pub other_var : (x y : ℕ) → (y ≡ x → ⊥) → occurs x (var y) ≡ false
other_var x y h = go (nat_eq x y) refl
  where
    go : (b : Bool) → nat_eq x y ≡ b → nat_eq x y ≡ false
    go true e = absurd (h (sym (same_var x y e)))
    go false e = e
