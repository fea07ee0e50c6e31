-- What is computed of related trees is related: instances, variables, unifiers.
use Rattle.std.proofs.Common.{◌≡◌, ℕ, zero, suc, ◌||◌, ◌==◌, nat_eq, List, [], ◌∷◌, ◌++◌, map, length, Option, Some, None, option_and_then, option_map, refl, ap₂, subst}
use Rattle.std.specs.List.{AllZip}
use Rattle.std.specs.Ordering.{int_eq}
use Rattle.ap_term.specs.declared.clauses.Check.{Check}
use Rattle.ap_term.specs.declared.clauses.Check.TheVariants.{Ground, Indep}
use Rattle.ap_term.specs.Tree.{Tree, Trees, var, int, atom, node, none, more}
use Rattle.ap_term.specs.Vars.{has, add_vars, add_all_vars, vars, occurs, occurs_all}
use Rattle.ap_term.specs.Substitution.{instance, instance_all, Subst, value, one}
use Rattle.ap_term.specs.Unification.{Equations, both, equate, apart, apart_all, replaced_by, grown, solve, mgu}
use Rattle.ap_term.specs.Goals.{Part, call, group, instance_check, instance_part, calls, opened}
use Rattle.ap_laws.specs.Renaming.{OptionZip, Renamed, RenamedAll, RenamedPair, RenamedSubst, RenamedCheck, RenamedPart, RenamedParts}
use Rattle.ap_term.proofs.Zips.{AllZip-append, AllZip-map, AllZip-flat_map, AllZip-weaken, length-AllZip, related-if}

mutual
  -- instances, where the maps take related variables to related trees
  pub Renamed-instance : (R S : ℕ → ℕ → Type 0) (f g : ℕ → Tree) → ((x y : ℕ) → R x y → Renamed S (f x) (g y)) → (t u : Tree) → Renamed R t u → Renamed S (instance f t) (instance g u)
  Renamed-instance R S f g e (var x) (var y) h = e x y h
  Renamed-instance R S f g e (int z) (int w) h = h
  Renamed-instance R S f g e (atom a) (atom b) h = h
  Renamed-instance R S f g e (node a ts) (node b us) h = (h.0, RenamedAll-instance_all R S f g e ts us h.1)
  Renamed-instance R S f g e _ _ h = absurd h

  pub RenamedAll-instance_all : (R S : ℕ → ℕ → Type 0) (f g : ℕ → Tree) → ((x y : ℕ) → R x y → Renamed S (f x) (g y)) → (ts us : Trees) → RenamedAll R ts us
      → RenamedAll S (instance_all f ts) (instance_all g us)
  RenamedAll-instance_all R S f g e none none h = tt
  RenamedAll-instance_all R S f g e (more t ts) (more u us) h = (Renamed-instance R S f g e t u h.0, RenamedAll-instance_all R S f g e ts us h.1)
  RenamedAll-instance_all R S f g e _ _ h = absurd h

mutual
  pub Renamed-weaken : (R S : ℕ → ℕ → Type 0) → ((x y : ℕ) → R x y → S x y) → (t u : Tree) → Renamed R t u → Renamed S t u
  Renamed-weaken R S e (var x) (var y) h = e x y h
  Renamed-weaken R S e (int z) (int w) h = h
  Renamed-weaken R S e (atom a) (atom b) h = h
  Renamed-weaken R S e (node a ts) (node b us) h = (h.0, RenamedAll-weaken R S e ts us h.1)
  Renamed-weaken R S e _ _ h = absurd h

  pub RenamedAll-weaken : (R S : ℕ → ℕ → Type 0) → ((x y : ℕ) → R x y → S x y) → (ts us : Trees) → RenamedAll R ts us → RenamedAll S ts us
  RenamedAll-weaken R S e none none h = tt
  RenamedAll-weaken R S e (more t ts) (more u us) h = (Renamed-weaken R S e t u h.0, RenamedAll-weaken R S e ts us h.1)
  RenamedAll-weaken R S e _ _ h = absurd h

RenamedCheck-weaken : (R S : ℕ → ℕ → Type 0) → ((x y : ℕ) → R x y → S x y) → (c d : Check) → RenamedCheck R c d → RenamedCheck S c d
RenamedCheck-weaken R S e (Ground x) (Ground y) h = e x y h
RenamedCheck-weaken R S e (Indep x y) (Indep z w) h = (e x z h.0, e y w h.1)
RenamedCheck-weaken R S e _ _ h = absurd h

RenamedPart-weaken : (R S : ℕ → ℕ → Type 0) → ((x y : ℕ) → R x y → S x y) → (p q : Part) → RenamedPart R p q → RenamedPart S p q
RenamedPart-weaken R S e (call t) (call u) h = Renamed-weaken R S e t u h
RenamedPart-weaken R S e (group cs ts) (group ds us) h = (AllZip-weaken _ _ (RenamedCheck-weaken R S e) cs ds h.0, RenamedAll-weaken R S e ts us h.1)
RenamedPart-weaken R S e _ _ h = absurd h

pub RenamedParts-weaken : (R S : ℕ → ℕ → Type 0) → ((x y : ℕ) → R x y → S x y) → (ps qs : List Part) → RenamedParts R ps qs → RenamedParts S ps qs
RenamedParts-weaken R S e ps qs h = AllZip-weaken (RenamedPart R) (RenamedPart S) (RenamedPart-weaken R S e) ps qs h

pub RenamedAll-calls : (R : ℕ → ℕ → Type 0) (ts us : Trees) → RenamedAll R ts us → RenamedParts R (calls ts) (calls us)
RenamedAll-calls R none none h = tt
RenamedAll-calls R (more t ts) (more u us) h = (h.0, RenamedAll-calls R ts us h.1)
RenamedAll-calls R _ _ h = absurd h

pub Renamed-opened : (R : ℕ → ℕ → Type 0) (ps qs : List Part) → RenamedParts R ps qs → RenamedParts R (opened ps) (opened qs)
Renamed-opened R [] [] h = tt
Renamed-opened R (call t ∷ ps) (call u ∷ qs) h = h
Renamed-opened R (group cs none ∷ ps) (group ds none ∷ qs) h = Renamed-opened R ps qs h.1
Renamed-opened R (group cs (more t ts) ∷ ps) (group ds (more u us) ∷ qs) h =
    (h.0.1.0, AllZip-append (RenamedPart R) (calls ts) ps (calls us) qs (RenamedAll-calls R ts us h.0.1.1) h.1)
Renamed-opened R (group cs none ∷ ps) (group ds (more u us) ∷ qs) h = absurd h.0.1
Renamed-opened R (group cs (more t ts) ∷ ps) (group ds none ∷ qs) h = absurd h.0.1
Renamed-opened R (call _ ∷ _) (group _ _ ∷ _) h = absurd h.0
Renamed-opened R (group _ none ∷ _) (call _ ∷ _) h = absurd h.0
Renamed-opened R (group _ (more _ _) ∷ _) (call _ ∷ _) h = absurd h.0
Renamed-opened R [] (_ ∷ _) h = absurd h
Renamed-opened R (_ ∷ _) [] h = absurd h

-- the relation takes different variables to different ones
abbrev pub IsOneToOne : (ℕ → ℕ → Type 0) → Type 0
IsOneToOne R = (x x' y y' : ℕ) → R x x' → R y y' → nat_eq x y ≡ nat_eq x' y'

module _ (R : ℕ → ℕ → Type 0) (one_one : IsOneToOne R) where
  -- ---- variables

  mutual
    pub Renamed-occurs : (x x' : ℕ) → R x x' → (t u : Tree) → Renamed R t u → occurs x t ≡ occurs x' u
    Renamed-occurs x x' r (var y) (var z) h = one_one x x' y z r h
    Renamed-occurs x x' r (int z) (int w) h = refl
    Renamed-occurs x x' r (atom a) (atom b) h = refl
    Renamed-occurs x x' r (node a ts) (node b us) h = RenamedAll-occurs_all x x' r ts us h.1
    Renamed-occurs x x' r _ _ h = absurd h

    pub RenamedAll-occurs_all : (x x' : ℕ) → R x x' → (ts us : Trees) → RenamedAll R ts us → occurs_all x ts ≡ occurs_all x' us
    RenamedAll-occurs_all x x' r none none h = refl
    RenamedAll-occurs_all x x' r (more t ts) (more u us) h = ap₂ (λ a b. a || b) (Renamed-occurs x x' r t u h.0) (RenamedAll-occurs_all x x' r ts us h.1)
    RenamedAll-occurs_all x x' r _ _ h = absurd h

  has-AllZip : (xs ys : List ℕ) (x y : ℕ) → AllZip R xs ys → R x y → has xs x ≡ has ys y
  has-AllZip [] [] x y h r = refl
  has-AllZip (z ∷ xs) (w ∷ ys) x y h r = ap₂ (λ a b. a || b) (one_one z w x y h.0 r) (has-AllZip xs ys x y h.1 r)
  has-AllZip [] (_ ∷ _) x y h r = absurd h
  has-AllZip (_ ∷ _) [] x y h r = absurd h

  mutual
    pub Renamed-add_vars : (t u : Tree) (xs ys : List ℕ) → Renamed R t u → AllZip R xs ys → AllZip R (add_vars t xs) (add_vars u ys)
    Renamed-add_vars (var x) (var y) xs ys h k =
        related-if (AllZip R) (has xs x) (has ys y) (has-AllZip xs ys x y k h) xs (xs ++ x ∷ []) ys (ys ++ y ∷ []) k (AllZip-append R xs (x ∷ []) ys (y ∷ []) k (h, tt))
    Renamed-add_vars (int z) (int w) xs ys h k = k
    Renamed-add_vars (atom a) (atom b) xs ys h k = k
    Renamed-add_vars (node a ts) (node b us) xs ys h k = RenamedAll-add_all_vars ts us xs ys h.1 k
    Renamed-add_vars _ _ xs ys h k = absurd h

    pub RenamedAll-add_all_vars : (ts us : Trees) (xs ys : List ℕ) → RenamedAll R ts us → AllZip R xs ys → AllZip R (add_all_vars ts xs) (add_all_vars us ys)
    RenamedAll-add_all_vars none none xs ys h k = k
    RenamedAll-add_all_vars (more t ts) (more u us) xs ys h k = RenamedAll-add_all_vars ts us (add_vars t xs) (add_vars u ys) h.1 (Renamed-add_vars t u xs ys h.0 k)
    RenamedAll-add_all_vars _ _ xs ys h k = absurd h

  -- ---- equations

  OptionZip-both : (a b c d : Option Equations) → OptionZip (RenamedSubst R) a b → OptionZip (RenamedSubst R) c d → OptionZip (RenamedSubst R) (both a c) (both b d)
  OptionZip-both None None c d h k = tt
  OptionZip-both (Some es) (Some fs) None None h k = tt
  OptionZip-both (Some es) (Some fs) (Some cs) (Some ds) h k = AllZip-append (RenamedPair R) es cs fs ds h k
  OptionZip-both None (Some _) c d h k = absurd h
  OptionZip-both (Some _) None c d h k = absurd h
  OptionZip-both (Some _) (Some _) None (Some _) h k = absurd k
  OptionZip-both (Some _) (Some _) (Some _) None h k = absurd k

  Renamed-equate : (x y : ℕ) (t u : Tree) → R x y → Renamed R t u → RenamedSubst R (equate x t) (equate y u)
  Renamed-equate x y (var v) (var w) h k =
      related-if (RenamedSubst R) (x == v) (y == w) (one_one x y v w h k) [] ((x, var v) ∷ []) [] ((y, var w) ∷ []) tt ((h, k), tt)
  Renamed-equate x y (int z) (int w) h k = ((h, k), tt)
  Renamed-equate x y (atom a) (atom b) h k = ((h, k), tt)
  Renamed-equate x y (node a ts) (node b us) h k = ((h, k), tt)
  Renamed-equate x y _ _ h k = absurd k

  mutual
    Renamed-apart : (t t' u u' : Tree) → Renamed R t t' → Renamed R u u' → OptionZip (RenamedSubst R) (apart t u) (apart t' u')
    Renamed-apart (var x) (var y) u u' h k = Renamed-equate x y u u' h k
    Renamed-apart (int z) (int w) (var x) (var y) h k = ((k, h), tt)
    Renamed-apart (int z) (int w) (int v) (int u) h k =
        related-if (OptionZip (RenamedSubst R)) (int_eq z v) (int_eq w u) (ap₂ int_eq h k) (Some []) None (Some []) None tt tt
    Renamed-apart (int z) (int w) (atom a) (atom b) h k = tt
    Renamed-apart (int z) (int w) (node a ts) (node b us) h k = tt
    Renamed-apart (atom a) (atom b) (var x) (var y) h k = ((k, h), tt)
    Renamed-apart (atom a) (atom b) (int v) (int u) h k = tt
    Renamed-apart (atom a) (atom b) (atom c) (atom d) h k =
        related-if (OptionZip (RenamedSubst R)) (a == c) (b == d) (ap₂ ◌==◌ h k) (Some []) None (Some []) None tt tt
    Renamed-apart (atom a) (atom b) (node c ts) (node d us) h k = tt
    Renamed-apart (node a ts) (node b us) (var x) (var y) h k = ((k, h), tt)
    Renamed-apart (node a ts) (node b us) (int v) (int u) h k = tt
    Renamed-apart (node a ts) (node b us) (atom c) (atom d) h k = tt
    Renamed-apart (node a ts) (node b us) (node c vs) (node d ws) h k =
        related-if (OptionZip (RenamedSubst R)) (a == c) (b == d) (ap₂ ◌==◌ h.0 k.0) (apart_all ts vs) None (apart_all us ws) None (RenamedAll-apart_all ts us vs ws h.1 k.1) tt
    Renamed-apart (var _) (int _) _ _ h k = absurd h
    Renamed-apart (var _) (atom _) _ _ h k = absurd h
    Renamed-apart (var _) (node _ _) _ _ h k = absurd h
    Renamed-apart (int _) (var _) _ _ h k = absurd h
    Renamed-apart (int _) (atom _) _ _ h k = absurd h
    Renamed-apart (int _) (node _ _) _ _ h k = absurd h
    Renamed-apart (atom _) (var _) _ _ h k = absurd h
    Renamed-apart (atom _) (int _) _ _ h k = absurd h
    Renamed-apart (atom _) (node _ _) _ _ h k = absurd h
    Renamed-apart (node _ _) (var _) _ _ h k = absurd h
    Renamed-apart (node _ _) (int _) _ _ h k = absurd h
    Renamed-apart (node _ _) (atom _) _ _ h k = absurd h
    Renamed-apart _ _ _ _ h k = absurd k

    RenamedAll-apart_all : (ts ts' us us' : Trees) → RenamedAll R ts ts' → RenamedAll R us us' → OptionZip (RenamedSubst R) (apart_all ts us) (apart_all ts' us')
    RenamedAll-apart_all none none none none h k = tt
    RenamedAll-apart_all none none (more u us) (more v vs) h k = tt
    RenamedAll-apart_all (more t ts) (more v vs) none none h k = tt
    RenamedAll-apart_all (more t ts) (more v vs) (more u us) (more w ws) h k =
        OptionZip-both (apart t u) (apart v w) (apart_all ts us) (apart_all vs ws) (Renamed-apart t v u w h.0 k.0) (RenamedAll-apart_all ts vs us ws h.1 k.1)
    RenamedAll-apart_all none (more _ _) _ _ h k = absurd h
    RenamedAll-apart_all (more _ _) none _ _ h k = absurd h
    RenamedAll-apart_all _ _ _ _ h k = absurd k

  pub Renamed-value : (s r : Subst) → RenamedSubst R s r → (x y : ℕ) → R x y → Renamed R (value s x) (value r y)
  Renamed-value [] [] h x y k = k
  Renamed-value (p ∷ s) (q ∷ r) h x y k =
      related-if (Renamed R) (p.0 == x) (q.0 == y) (one_one p.0 q.0 x y h.0.0 k) p.1 (value s x) q.1 (value r y) h.0.1 (Renamed-value s r h.1 x y k)
  Renamed-value [] (_ ∷ _) h x y k = absurd h
  Renamed-value (_ ∷ _) [] h x y k = absurd h

  RenamedSubst-replaced_by : (f g : ℕ → Tree) → ((x y : ℕ) → R x y → Renamed R (f x) (g y)) → (es fs : Equations) → RenamedSubst R es fs
      → OptionZip (RenamedSubst R) (replaced_by f es) (replaced_by g fs)
  RenamedSubst-replaced_by f g e [] [] h = tt
  RenamedSubst-replaced_by f g e (p ∷ es) (q ∷ fs) h =
      OptionZip-both (apart (f p.0) (instance f p.1)) (apart (g q.0) (instance g q.1)) (replaced_by f es) (replaced_by g fs)
      (Renamed-apart (f p.0) (g q.0) (instance f p.1) (instance g q.1) (e p.0 q.0 h.0.0) (Renamed-instance R R f g e p.1 q.1 h.0.1))
      (RenamedSubst-replaced_by f g e es fs h.1)
  RenamedSubst-replaced_by f g e [] (_ ∷ _) h = absurd h
  RenamedSubst-replaced_by f g e (_ ∷ _) [] h = absurd h

  OptionZip-grown : (p q : ℕ × Tree) → RenamedPair R p q → (s r : Option Subst) → OptionZip (RenamedSubst R) s r → OptionZip (RenamedSubst R) (option_map (grown p) s) (option_map (grown q) r)
  OptionZip-grown p q h None None k = tt
  OptionZip-grown p q h (Some s) (Some r) k = ((h.0, Renamed-instance R R (value s) (value r) (Renamed-value s r k) p.1 q.1 h.1), k)
  OptionZip-grown p q h None (Some _) k = absurd k
  OptionZip-grown p q h (Some _) None k = absurd k

  OptionZip-and_then : (F G : Equations → Option Subst) → ((es fs : Equations) → RenamedSubst R es fs → OptionZip (RenamedSubst R) (F es) (G fs)) → (a b : Option Equations)
      → OptionZip (RenamedSubst R) a b → OptionZip (RenamedSubst R) (option_and_then F a) (option_and_then G b)
  OptionZip-and_then F G e None None h = tt
  OptionZip-and_then F G e (Some es) (Some fs) h = e es fs h
  OptionZip-and_then F G e None (Some _) h = absurd h
  OptionZip-and_then F G e (Some _) None h = absurd h

  RenamedSubst-solve : (n : ℕ) (es fs : Equations) → RenamedSubst R es fs → OptionZip (RenamedSubst R) (solve n es) (solve n fs)
  RenamedSubst-solve zero [] [] h = tt
  RenamedSubst-solve zero (p ∷ es) (q ∷ fs) h = tt
  RenamedSubst-solve (suc n) [] [] h = tt
  RenamedSubst-solve (suc n) (p ∷ es) (q ∷ fs) h =
      related-if (OptionZip (RenamedSubst R)) (occurs p.0 p.1) (occurs q.0 q.1) (Renamed-occurs p.0 q.0 h.0.0 p.1 q.1 h.0.1) None _ None _ tt
      (OptionZip-and_then (λ ds. option_map (grown p) (solve n ds)) (λ ds. option_map (grown q) (solve n ds))
      (λ ds cs k. OptionZip-grown p q h.0 (solve n ds) (solve n cs) (RenamedSubst-solve n ds cs k))
      (replaced_by (value (one p.0 p.1)) es) (replaced_by (value (one q.0 q.1)) fs)
      (RenamedSubst-replaced_by (value (one p.0 p.1)) (value (one q.0 q.1)) (Renamed-value (one p.0 p.1) (one q.0 q.1) (h.0, tt)) es fs h.1))
  RenamedSubst-solve zero [] (_ ∷ _) h = absurd h
  RenamedSubst-solve zero (_ ∷ _) [] h = absurd h
  RenamedSubst-solve (suc _) [] (_ ∷ _) h = absurd h
  RenamedSubst-solve (suc _) (_ ∷ _) [] h = absurd h

  -- related pairs of trees have related most general unifiers, or none
  pub Renamed-mgu : (t t' u u' : Tree) → Renamed R t t' → Renamed R u u' → OptionZip (RenamedSubst R) (mgu t u) (mgu t' u')
  Renamed-mgu t t' u u' h k =
      subst (λ n. OptionZip (RenamedSubst R) (mgu t u) (option_and_then (solve n) (apart t' u')))
      (length-AllZip R (add_vars u (add_vars t [])) (add_vars u' (add_vars t' [])) (Renamed-add_vars u u' (add_vars t []) (add_vars t' []) k (Renamed-add_vars t t' [] [] h tt)))
      (OptionZip-and_then (solve (length (add_vars u (add_vars t [])))) (solve (length (add_vars u (add_vars t [])))) (RenamedSubst-solve (length (add_vars u (add_vars t []))))
      (apart t u) (apart t' u') (Renamed-apart t t' u u' h k))

-- ---- goals

module _ (R S : ℕ → ℕ → Type 0) (one_one : IsOneToOne S) (f g : ℕ → Tree) (e : (x y : ℕ) → R x y → Renamed S (f x) (g y)) where
  AllZip-vars : (x y : ℕ) → R x y → AllZip S (vars (f x)) (vars (g y))
  AllZip-vars x y h = Renamed-add_vars S one_one (f x) (g y) [] [] (e x y h) tt

  RenamedCheck-instance_check : (c d : Check) → RenamedCheck R c d → AllZip (RenamedCheck S) (instance_check f c) (instance_check g d)
  RenamedCheck-instance_check (Ground x) (Ground y) h = AllZip-map S (RenamedCheck S) Ground Ground (λ a b k. k) (vars (f x)) (vars (g y)) (AllZip-vars x y h)
  RenamedCheck-instance_check (Indep x y) (Indep z w) h =
      AllZip-flat_map S (RenamedCheck S) (λ u. map (Indep u) (vars (f y))) (λ u. map (Indep u) (vars (g w)))
      (λ a b k. AllZip-map S (RenamedCheck S) (Indep a) (Indep b) (λ c d l. (k, l)) (vars (f y)) (vars (g w)) (AllZip-vars y w h.1)) (vars (f x)) (vars (g z)) (AllZip-vars x z h.0)
  RenamedCheck-instance_check (Ground _) (Indep _ _) h = absurd h
  RenamedCheck-instance_check (Indep _ _) (Ground _) h = absurd h

  pub RenamedPart-instance_part : (p q : Part) → RenamedPart R p q → RenamedPart S (instance_part f p) (instance_part g q)
  RenamedPart-instance_part (call t) (call u) h = Renamed-instance R S f g e t u h
  RenamedPart-instance_part (group cs ts) (group ds us) h =
      (AllZip-flat_map (RenamedCheck R) (RenamedCheck S) (instance_check f) (instance_check g) RenamedCheck-instance_check cs ds h.0, RenamedAll-instance_all R S f g e ts us h.1)
  RenamedPart-instance_part (call _) (group _ _) h = absurd h
  RenamedPart-instance_part (group _ _) (call _) h = absurd h

  pub RenamedParts-instance_part : (ps qs : List Part) → RenamedParts R ps qs → RenamedParts S (map (instance_part f) ps) (map (instance_part g) qs)
  RenamedParts-instance_part ps qs h = AllZip-map (RenamedPart R) (RenamedPart S) (instance_part f) (instance_part g) RenamedPart-instance_part ps qs h
