-- That unification ends.
use Rattle.std.proofs.Common.{◌≡◌, ℕ, zero, suc, ◌+◌, ◌-◌, ◌*◌, ◌<◌, ◌≤◌, Bool, true, false, List, [], ◌∷◌, ◌++◌, length, map, refl, sym, ap, ◌∙◌, subst, arith, inl, inr}
use Rattle.std.proofs.Math.Nat.{add-mul, mul_assoc}
use Rattle.std.proofs.lemmas.Nat.{mul-le}
use Rattle.std.proofs.lemmas.Bool.{cases_eq}
use Rattle.ap_term.specs.Tree.{Tree, Trees, var, int, atom, node, none, more}
use Rattle.std.proofs.lemmas.Bool.{false≢true}
use Rattle.ap_term.specs.Substitution.{instance, instance_all, value, one}
use Rattle.ap_cells.specs.Trees.{tree_at, span}
use Rattle.ap_cells.proofs.Stands.{span-map, one-other}
use Rattle.ap_cells.specs.declared.pairs.Pairs.{Pairs}
use Rattle.ap_cells.specs.Walks.{Each, weight, weight_all}
use Rattle.ap_cells.proofs.Walks.{weight-some, span-first}
use Rattle.ap_unify.specs.Works.{weight_run, weight_runs, turns, IsBound}
use Rattle.ap_cells.specs.Assumed.{ArePairs}
use Rattle.ap_unify.proofs.Works.{weight_runs-push}
use Rattle.ap_term.proofs.Solutions.{one_here}

mutual
  weight-instance : (f : ℕ → Tree) (m : ℕ) → 0 < m → ((y : ℕ) → weight (f y) ≤ m) → (t : Tree) → weight (instance f t) ≤ weight t * m
  weight-instance f m k h (var x) = let b = h x in omega arith
  weight-instance f m k h (int z) = omega arith
  weight-instance f m k h (atom a) = omega arith
  weight-instance f m k h (node a ts) = let b = weight_all-instance f m k h ts in let e = add-mul (weight_all ts) 1 m in omega arith

  weight_all-instance : (f : ℕ → Tree) (m : ℕ) → 0 < m → ((y : ℕ) → weight (f y) ≤ m) → (ts : Trees) → weight_all (instance_all f ts) ≤ weight_all ts * m
  weight_all-instance f m k h none = omega arith
  weight_all-instance f m k h (more t ts) =
      let a = weight-instance f m k h t in let b = weight_all-instance f m k h ts in let e = add-mul (weight t) (weight_all ts) m in omega arith

one-weight : (x : ℕ) (t : Tree) (y : ℕ) → weight (value (one x t) y) ≤ weight t
one-weight x t y = elim (cases_eq x y) [
  | inl e ↦ let k : value (one x t) y ≡ t = subst (λ z. value (one x t) z ≡ t) e (one_here x t) in let w = ap weight k in omega arith
  | inr n ↦ let w = ap weight (one-other x t y n) in let l = weight-some t in omega arith
]

run-instance : (f : ℕ → Tree) (m : ℕ) → 0 < m → ((y : ℕ) → weight (f y) ≤ m) → (ts : List Tree) (r : Pairs) → ArePairs (length ts) r → weight_run (map (instance f) ts) r ≤ weight_run ts r * m
run-instance f m k h ts r i =
    let a = weight_all (span ts r.left r.count) in
    let b = weight_all (span ts r.right r.count) in
    let u = ap weight_all (span-map f ts r.left r.count i.0) in
    let v = ap weight_all (span-map f ts r.right r.count i.1) in
    let p = weight_all-instance f m k h (span ts r.left r.count) in
    let q = weight_all-instance f m k h (span ts r.right r.count) in
    let e = add-mul (2 * (a + b)) 1 m in
    let g = mul_assoc 2 (a + b) m in
    let d = add-mul a b m in
    omega arith

runs-instance : (f : ℕ → Tree) (m : ℕ) → 0 < m → ((y : ℕ) → weight (f y) ≤ m) → (ts : List Tree) (rs : List Pairs) → Each (ArePairs (length ts)) rs → weight_runs (map (instance f) ts) rs ≤ weight_runs ts rs * m
runs-instance f m k h ts [] i = omega arith
runs-instance f m k h ts (r ∷ rs) i =
    let a = run-instance f m k h ts r i.0 in let b = runs-instance f m k h ts rs i.1 in let e = add-mul (weight_run ts r) (weight_runs ts rs) m in omega arith

pub turns-le : (v a b : ℕ) → a ≤ b → turns v a ≤ turns v b
unfolding turns
turns-le zero a b h = h
turns-le (suc v) a b h = let k = turns-le v (a * a) (b * b) (mul-le a a b b h h) in omega arith

pub turns-lt : (v a b : ℕ) → a < b → turns v a < turns v b
unfolding turns
turns-lt zero a b h = h
turns-lt (suc v) a b h = let k = turns-le v (a * a) (b * b) (mul-le a a b b (omega arith) (omega arith)) in omega arith

turns-less : (v a w : ℕ) → a ≤ w * w → turns v a < turns (suc v) w
unfolding turns
turns-less v a w h = let k = turns-le v a (w * w) h in omega arith

-- a turn that binds no place
pub turns_plain : (v w : ℕ) (a b : ℕ) → v ≡ w → a < b → turns v a < turns w b
turns_plain v w a b e h = rw e (turns-lt w a b h)

-- a turn that binds one
pub turns_bind : (v w x : ℕ) (ts us : List Tree) (rs : List Pairs) (t : Tree) (b : ℕ) → v + 1 ≡ w → us ≡ map (instance (value (one x t))) ts → Each (ArePairs (length ts)) rs
    → weight_runs ts rs ≤ b → weight t ≤ b → turns v (weight_runs us rs) < turns w b
turns_bind v w x ts us rs t b e u i h k =
    let p : w ≡ suc v = omega arith in
    let q = runs-instance (value (one x t)) (weight t) (weight-some t) (one-weight x t) ts rs i in
    let m = mul-le (weight_runs ts rs) (weight t) b b h k in
    let z = ap (λ vs. weight_runs vs rs) u in
    rw p (turns-less v (weight_runs us rs) b (omega arith))

-- a place bound to the tree of another
pub less_bound : (v w x n a c : ℕ) (ts us : List Tree) (rs : List Pairs) (t : Tree) (b : Bool) → length ts ≡ n → Each (ArePairs n) rs → b ≡ true → IsBound ts us x t b → (b ≡ true → v + 1 ≡ w) → weight t ≤ a + c
    → turns v (weight_runs us rs) < turns w (weight_runs ts rs + 2 * (a + c))
less_bound v w x n a c ts us rs t true z i e k f l = turns_bind v w x ts us rs t (weight_runs ts rs + 2 * (a + c)) (f refl) k.1 (subst (λ j. Each (ArePairs j) rs) (sym z) i) (omega arith) (omega arith)
less_bound v w x n a c ts us rs t false z i e k f l = absurd (false≢true e)

pub less_args : (v w : ℕ) (ts us : List Tree) (rs : List Pairs) (r : Pairs) (a c : ℕ) → v ≡ w → us ≡ ts → weight_all (span ts r.left r.count) + 1 ≡ a → weight_all (span ts r.right r.count) + 1 ≡ c
    → turns v (weight_runs us (rs ++ r ∷ [])) < turns w (weight_runs ts rs + 2 * (a + c))
less_args v w ts us rs r a c e u f g =
    let k = ap (λ vs. weight_runs vs (rs ++ r ∷ [])) u ∙ weight_runs-push ts rs r in
    turns_plain v w (weight_runs us (rs ++ r ∷ [])) (weight_runs ts rs + 2 * (a + c)) e (omega arith)

-- a run taken off, its other pairs left, its first one solved
pub run_turn : (v w : ℕ) (ts us : List Tree) (old popped left new : List Pairs) (r : Pairs) → 0 < r.count → old ≡ popped ++ r ∷ []
    → weight_runs ts left ≤ weight_runs ts popped + (2 * (weight_all (span ts (r.left + 1) (r.count - 1)) + weight_all (span ts (r.right + 1) (r.count - 1))) + 1)
    → turns v (weight_runs us new) < turns w (weight_runs ts left + 2 * (weight (tree_at ts r.left) + weight (tree_at ts r.right))) → turns v (weight_runs us new) < turns w (weight_runs ts old)
run_turn v w ts us old popped left new r h e f g =
    let a = ap (weight_runs ts) e ∙ weight_runs-push ts popped r in
    let b = ap weight_all (span-first ts r.left r.count h) in
    let c = ap weight_all (span-first ts r.right r.count h) in
    let d = turns-le w (weight_runs ts left + 2 * (weight (tree_at ts r.left) + weight (tree_at ts r.right))) (weight_runs ts old) (omega arith) in
    omega arith
