-- What is computed of trees has only variables of them.
use Rattle.std.proofs.Common.{◌≡◌, ℕ, zero, suc, Bool, true, false, ◌==◌, if◌then◌else◌, List, [], ◌∷◌, ◌++◌, map, length, Option, Some, None, option_and_then, option_map, refl, subst}
use Rattle.std.specs.List.{AllByRecursion}
use Rattle.std.specs.Ordering.{int_eq}
use Rattle.ap_term.specs.declared.clauses.Check.{Check}
use Rattle.ap_term.specs.declared.clauses.Check.TheVariants.{Ground, Indep}
use Rattle.ap_term.specs.Tree.{Tree, Trees, var, int, atom, node, none, more}
use Rattle.ap_term.specs.Vars.{has, add_vars, add_all_vars, vars, occurs, Local, LocalAll}
use Rattle.ap_term.specs.Substitution.{instance, Subst, value, one}
use Rattle.ap_term.specs.Unification.{Equations, both, equate, apart, apart_all, replaced_by, grown, solve, mgu}
use Rattle.ap_term.specs.Goals.{Part, call, group, instance_check, instance_part, calls, opened}
use Rattle.ap_term.proofs.Solutions.{same_var}
use Rattle.ap_term.proofs.Locals.{Local-instance, LocalAll-instance_all}
use Rattle.ap_laws.specs.Renaming.{OptionAll, LocalPair, LocalSubst, LocalCheck, LocalPart, LocalParts}
use Rattle.ap_term.proofs.Zips.{AllByRecursion-append, AllByRecursion-map, AllByRecursion-flat_map}

-- ---- unifiers

module _ (P : ℕ → Type 0) where
  Local-if : (b : Bool) (t u : Tree) → Local P t → Local P u → Local P (if b then t else u)
  Local-if true t u h k = h
  Local-if false t u h k = k

  pub Local-value : (s : Subst) → LocalSubst P s → (x : ℕ) → P x → Local P (value s x)
  Local-value [] h x k = k
  Local-value (p ∷ s) h x k = Local-if (p.0 == x) p.1 (value s x) h.0.1 (Local-value s h.1 x k)

  -- a variable without the property stays
  pub value-other : (s : Subst) → LocalSubst P s → (x : ℕ) → (P x → ⊥) → value s x ≡ var x
  value-other [] h x k = refl
  value-other (p ∷ s) h x k = go (p.0 == x) refl (value-other s h.1 x k)
    where
      go : (b : Bool) → (p.0 == x) ≡ b → value s x ≡ var x → (if b then p.1 else value s x) ≡ var x
      go true e ih = absurd (k (subst P (same_var p.0 x e) h.0.0))
      go false e ih = ih

  OptionAll-both : (a b : Option Equations) → OptionAll (LocalSubst P) a → OptionAll (LocalSubst P) b → OptionAll (LocalSubst P) (both a b)
  OptionAll-both None b h k = tt
  OptionAll-both (Some es) None h k = tt
  OptionAll-both (Some es) (Some ds) h k = AllByRecursion-append (LocalPair P) es ds h k

  LocalSubst-equate : (x : ℕ) (t : Tree) → P x → Local P t → LocalSubst P (equate x t)
  LocalSubst-equate x (var y) h k = go (x == y)
    where
      go : (b : Bool) → LocalSubst P (if b then [] else (x, var y) ∷ [])
      go true = tt
      go false = ((h, k), tt)
  LocalSubst-equate x (int z) h k = ((h, k), tt)
  LocalSubst-equate x (atom a) h k = ((h, k), tt)
  LocalSubst-equate x (node a ts) h k = ((h, k), tt)

  OptionAll-if : (b : Bool) (o : Option Equations) → OptionAll (LocalSubst P) o → OptionAll (LocalSubst P) (if b then o else None)
  OptionAll-if true o h = h
  OptionAll-if false o h = tt

  mutual
    Local-apart : (t u : Tree) → Local P t → Local P u → OptionAll (LocalSubst P) (apart t u)
    Local-apart (var x) u h k = LocalSubst-equate x u h k
    Local-apart (int z) (var x) h k = ((k, h), tt)
    Local-apart (int z) (int w) h k = OptionAll-if (int_eq z w) (Some []) tt
    Local-apart (atom a) (var x) h k = ((k, h), tt)
    Local-apart (atom a) (atom b) h k = OptionAll-if (a == b) (Some []) tt
    Local-apart (node a ts) (var x) h k = ((k, h), tt)
    Local-apart (node a ts) (node b us) h k = OptionAll-if (a == b) (apart_all ts us) (LocalAll-apart_all ts us h k)
    Local-apart _ _ h k = tt

    LocalAll-apart_all : (ts us : Trees) → LocalAll P ts → LocalAll P us → OptionAll (LocalSubst P) (apart_all ts us)
    LocalAll-apart_all none none h k = tt
    LocalAll-apart_all (more t ts) (more u us) h k = OptionAll-both (apart t u) (apart_all ts us) (Local-apart t u h.0 k.0) (LocalAll-apart_all ts us h.1 k.1)
    LocalAll-apart_all _ _ h k = tt

  LocalSubst-replaced_by : (f : ℕ → Tree) → ((x : ℕ) → P x → Local P (f x)) → (es : Equations) → LocalSubst P es → OptionAll (LocalSubst P) (replaced_by f es)
  LocalSubst-replaced_by f e [] h = tt
  LocalSubst-replaced_by f e (p ∷ es) h =
      OptionAll-both (apart (f p.0) (instance f p.1)) (replaced_by f es)
      (Local-apart (f p.0) (instance f p.1) (e p.0 h.0.0) (Local-instance P P f e p.1 h.0.1)) (LocalSubst-replaced_by f e es h.1)

  OptionAll-grown : (p : ℕ × Tree) → LocalPair P p → (s : Option Subst) → OptionAll (LocalSubst P) s → OptionAll (LocalSubst P) (option_map (grown p) s)
  OptionAll-grown p h None k = tt
  OptionAll-grown p h (Some s) k = ((h.0, Local-instance P P (value s) (Local-value s k) p.1 h.1), k)

  OptionAll-and_then : (F : Equations → Option Subst) → ((es : Equations) → LocalSubst P es → OptionAll (LocalSubst P) (F es)) → (a : Option Equations) → OptionAll (LocalSubst P) a
      → OptionAll (LocalSubst P) (option_and_then F a)
  OptionAll-and_then F e None h = tt
  OptionAll-and_then F e (Some es) h = e es h

  LocalSubst-solve : (n : ℕ) (es : Equations) → LocalSubst P es → OptionAll (LocalSubst P) (solve n es)
  LocalSubst-solve zero [] h = tt
  LocalSubst-solve zero (p ∷ es) h = tt
  LocalSubst-solve (suc n) [] h = tt
  LocalSubst-solve (suc n) (p ∷ es) h = go (occurs p.0 p.1) (LocalSubst-solve n)
    where
      go : (b : Bool) → ((ds : Equations) → LocalSubst P ds → OptionAll (LocalSubst P) (solve n ds)) → OptionAll (LocalSubst P) (if b then None else option_and_then (λ ds. option_map (grown p) (solve n ds)) (replaced_by (value (one p.0 p.1)) es))
      go true ih = tt
      go false ih =
          OptionAll-and_then (λ ds. option_map (grown p) (solve n ds)) (λ ds k. OptionAll-grown p h.0 (solve n ds) (ih ds k))
          (replaced_by (value (one p.0 p.1)) es) (LocalSubst-replaced_by (value (one p.0 p.1)) (Local-value (one p.0 p.1) (h.0, tt)) es h.1)

  -- a most general unifier binds and mentions only variables of the two trees
  pub Local-mgu : (t u : Tree) → Local P t → Local P u → OptionAll (LocalSubst P) (mgu t u)
  Local-mgu t u h k =
      OptionAll-and_then (solve (length (add_vars u (add_vars t [])))) (LocalSubst-solve (length (add_vars u (add_vars t [])))) (apart t u) (Local-apart t u h k)

-- ---- goals

mutual
  AllByRecursion-add_vars : (P : ℕ → Type 0) (t : Tree) (xs : List ℕ) → Local P t → AllByRecursion P xs → AllByRecursion P (add_vars t xs)
  AllByRecursion-add_vars P (var x) xs h k = go (has xs x)
    where
      go : (b : Bool) → AllByRecursion P (if b then xs else xs ++ x ∷ [])
      go true = k
      go false = AllByRecursion-append P xs (x ∷ []) k (h, tt)
  AllByRecursion-add_vars P (int z) xs h k = k
  AllByRecursion-add_vars P (atom a) xs h k = k
  AllByRecursion-add_vars P (node a ts) xs h k = AllByRecursion-add_all_vars P ts xs h k

  pub AllByRecursion-add_all_vars : (P : ℕ → Type 0) (ts : Trees) (xs : List ℕ) → LocalAll P ts → AllByRecursion P xs → AllByRecursion P (add_all_vars ts xs)
  AllByRecursion-add_all_vars P none xs h k = k
  AllByRecursion-add_all_vars P (more t ts) xs h k = AllByRecursion-add_all_vars P ts (add_vars t xs) h.1 (AllByRecursion-add_vars P t xs h.0 k)

module _ (P Q : ℕ → Type 0) (f : ℕ → Tree) (e : (x : ℕ) → P x → Local Q (f x)) where
  AllByRecursion-vars : (x : ℕ) → P x → AllByRecursion Q (vars (f x))
  AllByRecursion-vars x h = AllByRecursion-add_vars Q (f x) [] (e x h) tt

  LocalCheck-instance_check : (c : Check) → LocalCheck P c → AllByRecursion (LocalCheck Q) (instance_check f c)
  LocalCheck-instance_check (Ground x) h = AllByRecursion-map Q (LocalCheck Q) Ground (λ a k. k) (vars (f x)) (AllByRecursion-vars x h)
  LocalCheck-instance_check (Indep x y) h =
      AllByRecursion-flat_map Q (LocalCheck Q) (λ u. map (Indep u) (vars (f y)))
      (λ a k. AllByRecursion-map Q (LocalCheck Q) (Indep a) (λ b l. (k, l)) (vars (f y)) (AllByRecursion-vars y h.1)) (vars (f x)) (AllByRecursion-vars x h.0)

  LocalPart-instance_part : (p : Part) → LocalPart P p → LocalPart Q (instance_part f p)
  LocalPart-instance_part (call t) h = Local-instance P Q f e t h
  LocalPart-instance_part (group cs ts) h =
      (AllByRecursion-flat_map (LocalCheck P) (LocalCheck Q) (instance_check f) LocalCheck-instance_check cs h.0, LocalAll-instance_all P Q f e ts h.1)

  pub LocalParts-instance_part : (ps : List Part) → LocalParts P ps → LocalParts Q (map (instance_part f) ps)
  LocalParts-instance_part ps h = AllByRecursion-map (LocalPart P) (LocalPart Q) (instance_part f) LocalPart-instance_part ps h

pub LocalAll-calls : (P : ℕ → Type 0) (ts : Trees) → LocalAll P ts → LocalParts P (calls ts)
LocalAll-calls P none h = tt
LocalAll-calls P (more t ts) h = (h.0, LocalAll-calls P ts h.1)

pub LocalParts-opened : (P : ℕ → Type 0) (ps : List Part) → LocalParts P ps → LocalParts P (opened ps)
LocalParts-opened P [] h = tt
LocalParts-opened P (call t ∷ ps) h = h
LocalParts-opened P (group cs none ∷ ps) h = LocalParts-opened P ps h.1
LocalParts-opened P (group cs (more t ts) ∷ ps) h = (h.0.1.0, AllByRecursion-append (LocalPart P) (calls ts) ps (LocalAll-calls P ts h.0.1.1) h.1)
