-- What one pair does.
use Rattle.std.proofs.Common.{◌≡◌, ℕ, zero, suc, ◌+◌, ◌≤◌, Bool, true, false, List, [], ◌∷◌, ◌++◌, length, map, refl, sym, ap, ◌∙◌, subst, arith}
use Rattle.ap_term.specs.Tree.{Tree, Trees, var, node, more}
use Rattle.ap_term.specs.Substitution.{instance, instance_all, value, one}
use Rattle.ap_term.specs.Vars.{occurs}
use Rattle.ap_term.proofs.Copies.{instance_var, instance_twice, instance_all_twice}
use Rattle.ap_term.proofs.Solutions.{one_absent, one_absorbed, instance_all_agree}
use Rattle.ap_term.proofs.Solvable.{occurs_check}
use Rattle.std.proofs.lemmas.Bool.{ne_eqb}
use Rattle.ap_cells.specs.declared.cells.Raw.{Raw}
use Rattle.ap_cells.specs.declared.cells.Raw.TheVariants.{Free, Same, Int, Atom, Node}
use Rattle.ap_cells.specs.Trees.{tree_at, span, step}
use Rattle.ap_unify.specs.Sides.{IsTerm}
use Rattle.ap_cells.proofs.Stands.{span-map}
use Rattle.ap_cells.specs.Assumed.{ArePairs}
use Rattle.ap_cells.specs.declared.pairs.Pairs.{Pairs}
use Rattle.ap_cells.specs.Walks.{Each}
use Rattle.ap_unify.specs.Works.{SolvesRuns, weight_run, weight_runs, Step, Stepped, IsBound, goes_on, outcome_of, with_args}
use Rattle.ap_term.proofs.Solutions.{one_here}

pub weight_runs-push : (ts : List Tree) (rs : List Pairs) (r : Pairs) → weight_runs ts (rs ++ r ∷ []) ≡ weight_runs ts rs + weight_run ts r
weight_runs-push ts [] r = omega arith
weight_runs-push ts (q ∷ rs) r = omega (arith, weight_runs-push ts rs r)

pub map_same : (ts : List Tree) → ts ≡ map (instance (λ x. var x)) ts
map_same [] = refl
map_same (t ∷ ts) = ap (λ u. u ∷ ts) (sym (instance_var t)) ∙ ap (λ us. instance (λ x. var x) t ∷ us) (map_same ts)

-- two places that stand for one tree
pub turn_same : (ts : List Tree) (rs : List Pairs) (p q : ℕ) → tree_at ts p ≡ tree_at ts q → Step ts ts rs rs p q
turn_same ts rs p q e = record {
  by = λ x. var x;
  now = map_same ts;
  finds = λ g s k. (λ x. refl, s);
  solves = λ h s. (s, ap (instance h) e);
}

pub turn_back : (ts us : List Tree) (rs qs : List Pairs) (p q : ℕ) → Step ts us rs qs p q → Step ts us rs qs q p
turn_back ts us rs qs p q t = record {
  by = t.by;
  now = t.now;
  finds = λ g s k. t.finds g s (sym k);
  solves = λ h s. ((t.solves h s).0, sym (t.solves h s).1);
}

instance_all_same : (f g : ℕ → Tree) (ts : Trees) → ((y : ℕ) → f y ≡ g y) → instance_all f ts ≡ instance_all g ts
instance_all_same f g ts e = instance_all_agree f g ts (λ y o. e y)

-- all instances of the runs under f, and then under h
runs_twice : (f h : ℕ → Tree) (ts : List Tree) (rs : List Pairs) → Each (ArePairs (length ts)) rs → SolvesRuns h (map (instance f) ts) rs → SolvesRuns (λ x. instance h (f x)) ts rs
runs_twice f h ts [] i s = tt
runs_twice f h ts (r ∷ rs) i s =
    let b = λ (p : ℕ) (k : p + r.count ≤ length ts). ap (instance_all h) (span-map f ts p r.count k) ∙ instance_all_twice f h (span ts p r.count) in
    (sym (b r.left i.0.0) ∙ s.0 ∙ b r.right i.0.1, runs_twice f h ts rs i.1 s.1)

runs_once : (f g : ℕ → Tree) (ts : List Tree) (rs : List Pairs) → ((x : ℕ) → instance g (f x) ≡ g x) → Each (ArePairs (length ts)) rs → SolvesRuns g ts rs → SolvesRuns g (map (instance f) ts) rs
runs_once f g ts [] e i s = tt
runs_once f g ts (r ∷ rs) e i s =
    let b = λ (p : ℕ) (k : p + r.count ≤ length ts). ap (instance_all g) (span-map f ts p r.count k) ∙ instance_all_twice f g (span ts p r.count) ∙ instance_all_same (λ x. instance g (f x)) g (span ts p r.count) e in
    (b r.left i.0.0 ∙ s.0 ∙ sym (b r.right i.0.1), runs_once f g ts rs e i.1 s.1)

-- an unbound place bound to a tree without it
pub turn_bind : (ts us : List Tree) (rs : List Pairs) (p q x : ℕ) (t : Tree) → Each (ArePairs (length ts)) rs → tree_at ts p ≡ var x → tree_at ts q ≡ t → occurs x t ≡ false
    → us ≡ map (instance (value (one x t))) ts → Step ts us rs rs p q
turn_bind ts us rs p q x t i e f o u = record {
  by = value (one x t);
  now = u;
  finds = λ g s k.
      let y : g x ≡ instance g t = sym (ap (instance g) e) ∙ k ∙ ap (instance g) f in
      let a = one_absorbed g x t y in
      (a, subst (λ vs. SolvesRuns g vs rs) (sym u) (runs_once (value (one x t)) g ts rs a i s));
  solves = λ h s. (
    runs_twice (value (one x t)) h ts rs i (subst (λ vs. SolvesRuns h vs rs) u s),
    let w = λ (v : Tree). sym (instance_twice (value (one x t)) h v) in
        ap (instance (λ y. instance h (value (one x t) y))) e ∙ w (var x) ∙ ap (instance h) (one_here x t ∙ sym (one_absent x t t o)) ∙ sym (w t) ∙ sym (ap (instance (λ y. instance h (value (one x t) y))) f),
  );
}

-- a tree in which x stands is not equal to x
pub turn_inside : (ts : List Tree) (p q x : ℕ) (t : Tree) → tree_at ts p ≡ var x → tree_at ts q ≡ t → (t ≡ var x → ⊥) → occurs x t ≡ true → (g : ℕ → Tree) → instance g (tree_at ts p) ≡ instance g (tree_at ts q) → ⊥
turn_inside ts p q x t e f n o g k =
    let y : g x ≡ instance g t = sym (ap (instance g) e) ∙ k ∙ ap (instance g) f in
    let z = occurs_check g x t n y in cc

-- as many places
pub span-count : (g : ℕ → Tree) (ts : List Tree) (p q m n : ℕ) → instance_all g (span ts p m) ≡ instance_all g (span ts q n) → m ≡ n
span-count g ts p q zero zero e = refl
span-count g ts p q zero (suc n) e = cc
span-count g ts p q (suc m) zero e = cc
span-count g ts p q (suc m) (suc n) e = let k = span-count g ts (p + 1) (q + 1) m n (tail (instance g (tree_at ts p)) (instance g (tree_at ts q)) (instance_all g (span ts (p + 1) m)) (instance_all g (span ts (q + 1) n)) e) in ap suc k
  where
    tail : (t u : Tree) (us vs : Trees) → more t us ≡ more u vs → us ≡ vs
    tail t u us vs k = cc

pub node-count : (g : ℕ → Tree) (ts : List Tree) (a b p q m n : ℕ) → (m ≡ n → ⊥) → node a (instance_all g (span ts p m)) ≡ node b (instance_all g (span ts q n)) → ⊥
node-count g ts a b p q m n d e = d (span-count g ts p q m n (arguments (instance_all g (span ts p m)) (instance_all g (span ts q n)) e))
  where
    arguments : (us vs : Trees) → node a us ≡ node b vs → us ≡ vs
    arguments us vs k = cc

-- a turn at the ends of two chains is a turn at their starts
pub turn_ends : (ts us : List Tree) (rs qs : List Pairs) (p q x y : ℕ) (b : Bool) → tree_at ts x ≡ tree_at ts p → tree_at ts y ≡ tree_at ts q → Stepped ts us rs qs x y b → Stepped ts us rs qs p q b
turn_ends ts us rs qs p q x y true e f t = record {
  by = t.by;
  now = t.now;
  finds = λ g s k. t.finds g s (ap (instance g) e ∙ k ∙ sym (ap (instance g) f));
  solves = λ h s. let z = t.solves h s in let i = instance (λ v. instance h (t.by v)) in (z.0, sym (ap i e) ∙ z.1 ∙ ap i f);
}
turn_ends ts us rs qs p q x y false e f t = λ g k. t g (ap (instance g) e ∙ k ∙ sym (ap (instance g) f))

term_not_var : (ts : List Tree) (i y : ℕ) (d : Raw) → IsTerm d → step ts i d ≡ var y → ⊥
term_not_var ts i y Free k e = k
term_not_var ts i y (Same j) k e = k
term_not_var ts i y (Int z) k e = cc
term_not_var ts i y (Atom a) k e = cc
term_not_var ts i y (Node a p n) k e = cc

turned_back : (ts us : List Tree) (rs qs : List Pairs) (p q : ℕ) (b : Bool) → Stepped ts us rs qs p q b → Stepped ts us rs qs q p b
turned_back ts us rs qs p q true t = turn_back ts us rs qs p q t
turned_back ts us rs qs p q false t = λ g k. t g (sym k)

bound_turn : (ts us : List Tree) (rs : List Pairs) (p q x : ℕ) (b : Bool) → Each (ArePairs (length ts)) rs → tree_at ts p ≡ var x → ((y : ℕ) → tree_at ts q ≡ var y → ⊥)
    → IsBound ts us x (tree_at ts q) b → Stepped ts us rs rs p q b
bound_turn ts us rs p q x true i e n k = turn_bind ts us rs p q x (tree_at ts q) i e refl k.0 k.1
bound_turn ts us rs p q x false i e n k = turn_inside ts p q x (tree_at ts q) e refl (n x) k

-- a variable on the left, a term on the right
pub solve_left : (ts us : List Tree) (rs : List Pairs) (p q l r n : ℕ) (c d : Raw) (b : Bool) → length ts ≡ n → Each (ArePairs n) rs → tree_at ts l ≡ tree_at ts p → tree_at ts r ≡ tree_at ts q
    → tree_at ts l ≡ step ts l c → tree_at ts r ≡ step ts r d → c ≡ Free → IsTerm d → IsBound ts us l (tree_at ts r) b → Stepped ts us rs rs p q b
solve_left ts us rs p q l r n c d b z i e f g h k m o =
    turn_ends ts us rs rs p q l r b e f
    (bound_turn ts us rs l r l b (subst (λ j. Each (ArePairs j) rs) (sym z) i) (g ∙ ap (step ts l) k) (λ y v. term_not_var ts r y d m (sym h ∙ v)) o)

pub solve_right : (ts us : List Tree) (rs : List Pairs) (p q l r n : ℕ) (c d : Raw) (b : Bool) → length ts ≡ n → Each (ArePairs n) rs → tree_at ts l ≡ tree_at ts p → tree_at ts r ≡ tree_at ts q
    → tree_at ts l ≡ step ts l c → tree_at ts r ≡ step ts r d → IsTerm c → d ≡ Free → IsBound ts us r (tree_at ts l) b → Stepped ts us rs rs p q b
solve_right ts us rs p q l r n c d b z i e f g h k m o = turned_back ts us rs rs q p b (solve_left ts us rs q p r l n d c b z i f e h g m k o)

-- two variables, the left one bound
pub solve_both : (ts us : List Tree) (rs : List Pairs) (p q l r n : ℕ) (c d : Raw) → length ts ≡ n → Each (ArePairs n) rs → tree_at ts l ≡ tree_at ts p → tree_at ts r ≡ tree_at ts q
    → tree_at ts l ≡ step ts l c → tree_at ts r ≡ step ts r d → c ≡ Free → d ≡ Free → (l ≡ r → ⊥) → us ≡ map (instance (value (one l (tree_at ts r)))) ts → Step ts us rs rs p q
solve_both ts us rs p q l r n c d z i e f g h k m o u =
    turn_ends ts us rs rs p q l r true e f
    (turn_bind ts us rs l r l (tree_at ts r) (subst (λ j. Each (ArePairs j) rs) (sym z) i) (g ∙ ap (step ts l) k) refl (ap (occurs l) (h ∙ ap (step ts r) m) ∙ ne_eqb l r o) u)

pub goes_on-outcome_of : (b : Bool) → goes_on (outcome_of b) ≡ b
goes_on-outcome_of true = refl
goes_on-outcome_of false = refl

pub with_args-outcome_of : (b : Bool) (rs : List Pairs) → with_args (outcome_of b) rs ≡ rs
with_args-outcome_of true rs = refl
with_args-outcome_of false rs = refl
