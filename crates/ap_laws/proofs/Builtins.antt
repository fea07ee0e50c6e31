-- Built-in goals on related trees, and the variables of their answers.
use Rattle.std.proofs.Common.{◌≡◌, ℕ, Bool, true, false, not, ◌&&◌, ◌==◌, if◌then◌else◌, is_none, [], Option, Some, None, ℤ, refl, ap, ap₂, ◌∙◌, subst}
use Rattle.std.specs.Prelude.{Ok, Err}
use Rattle.std.specs.Result.{result_ok}
use Rattle.std.specs.Ordering.{int_eq}
use Rattle.ap_term.specs.declared.builtins.Relation.{Relation}
use Rattle.ap_term.specs.declared.builtins.Relation.TheVariants.{Unify, NotUnify, Same, NotSame, Is, Compare}
use Rattle.ap_term.specs.declared.fixed.TheConstants.{TRUE, FAIL, MINUS}
use Rattle.ap_term.specs.Tree.{Tree, Trees, var, int, atom, node, none, more}
use Rattle.ap_term.specs.Substitution.{Subst}
use Rattle.ap_term.specs.Unification.{mgu}
use Rattle.ap_term.specs.Identical.{identical, identical_all}
use Rattle.ap_term.specs.Arithmetic.{evaluated, eval, negated, value_of, operation_named, compare_values}
use Rattle.ap_term.specs.Builtins.{builtin, relation_named, relation_answer, named_answer, succeeds_if, unified_value}
use Rattle.ap_term.specs.declared.faults.Fault.TheVariants.{WrongType}
use Rattle.ap_term.specs.Faults.{fault_of}
use Rattle.ap_term.specs.Vars.{Local}
use Rattle.ap_laws.specs.Renaming.{OptionZip, OptionAll, Renamed, RenamedAll, RenamedSubst, LocalSubst}
use Rattle.ap_term.proofs.Zips.{related-if}
use Rattle.ap_laws.proofs.Renamed.{IsOneToOne, Renamed-mgu}
use Rattle.ap_laws.proofs.Local.{Local-mgu}

-- expressions come to the same
pub Renamed-evaluated : (R : ℕ → ℕ → Type 0) (t u : Tree) → Renamed R t u → evaluated t ≡ evaluated u
Renamed-evaluated R (var x) (var y) h = refl
Renamed-evaluated R (int z) (int w) h = ap Ok h
Renamed-evaluated R (atom a) (atom b) h = refl
Renamed-evaluated R (node a none) (node b none) h = refl
Renamed-evaluated R (node a (more t none)) (node b (more u none)) h =
    ap₂ (λ c v. if c == MINUS then negated v else Err WrongType) h.0 (Renamed-evaluated R t u h.1.0)
Renamed-evaluated R (node a (more t (more v none))) (node b (more u (more w none))) h =
    ap (λ c. value_of (operation_named c) (evaluated t) (evaluated v)) h.0
    ∙ ap₂ (value_of (operation_named b)) (Renamed-evaluated R t u h.1.0) (Renamed-evaluated R v w h.1.1.0)
Renamed-evaluated R (node a (more t (more v (more _ _)))) (node b (more u (more w (more _ _)))) h = refl
Renamed-evaluated R (node a none) (node b (more _ _)) h = absurd h.1
Renamed-evaluated R (node a (more _ none)) (node b none) h = absurd h.1
Renamed-evaluated R (node a (more _ (more _ none))) (node b none) h = absurd h.1
Renamed-evaluated R (node a (more _ (more _ (more _ _)))) (node b none) h = absurd h.1
Renamed-evaluated R (node a (more _ none)) (node b (more _ (more _ none))) h = absurd h.1.1
Renamed-evaluated R (node a (more _ none)) (node b (more _ (more _ (more _ _)))) h = absurd h.1.1
Renamed-evaluated R (node a (more _ (more _ none))) (node b (more _ none)) h = absurd h.1.1
Renamed-evaluated R (node a (more _ (more _ (more _ _)))) (node b (more _ none)) h = absurd h.1.1
Renamed-evaluated R (node a (more _ (more _ none))) (node b (more _ (more _ (more _ _)))) h = absurd h.1.1.1
Renamed-evaluated R (node a (more _ (more _ (more _ _)))) (node b (more _ (more _ none))) h = absurd h.1.1.1
Renamed-evaluated R _ _ h = absurd h

pub Renamed-eval : (R : ℕ → ℕ → Type 0) (t u : Tree) → Renamed R t u → eval t ≡ eval u
Renamed-eval R t u h = ap result_ok (Renamed-evaluated R t u h)

-- by the switch; with faults on it is what `Renamed-evaluated` gives of the arguments
pub Renamed-fault_of : (R : ℕ → ℕ → Type 0) (t u : Tree) → Renamed R t u → fault_of t ≡ fault_of u
Renamed-fault_of R t u h = refl

module _ (R : ℕ → ℕ → Type 0) (one_one : IsOneToOne R) where
  mutual
    -- whether two trees are the same
    pub Renamed-identical : (t t' u u' : Tree) → Renamed R t t' → Renamed R u u' → identical t u ≡ identical t' u'
    Renamed-identical (var x) (var y) (var v) (var w) h k = one_one x y v w h k
    Renamed-identical (int x) (int y) (int v) (int w) h k = ap₂ int_eq h k
    Renamed-identical (atom x) (atom y) (atom v) (atom w) h k = ap₂ ◌==◌ h k
    Renamed-identical (node a ts) (node b us) (node c vs) (node d ws) h k =
        ap₂ (λ p q. p && q) (ap₂ ◌==◌ h.0 k.0) (RenamedAll-identical_all ts us vs ws h.1 k.1)
    Renamed-identical (var _) (var _) (int _) (int _) h k = refl
    Renamed-identical (var _) (var _) (atom _) (atom _) h k = refl
    Renamed-identical (var _) (var _) (node _ _) (node _ _) h k = refl
    Renamed-identical (int _) (int _) (var _) (var _) h k = refl
    Renamed-identical (int _) (int _) (atom _) (atom _) h k = refl
    Renamed-identical (int _) (int _) (node _ _) (node _ _) h k = refl
    Renamed-identical (atom _) (atom _) (var _) (var _) h k = refl
    Renamed-identical (atom _) (atom _) (int _) (int _) h k = refl
    Renamed-identical (atom _) (atom _) (node _ _) (node _ _) h k = refl
    Renamed-identical (node _ _) (node _ _) (var _) (var _) h k = refl
    Renamed-identical (node _ _) (node _ _) (int _) (int _) h k = refl
    Renamed-identical (node _ _) (node _ _) (atom _) (atom _) h k = refl
    Renamed-identical (var _) (int _) _ _ h k = absurd h
    Renamed-identical (var _) (atom _) _ _ h k = absurd h
    Renamed-identical (var _) (node _ _) _ _ h k = absurd h
    Renamed-identical (int _) (var _) _ _ h k = absurd h
    Renamed-identical (int _) (atom _) _ _ h k = absurd h
    Renamed-identical (int _) (node _ _) _ _ h k = absurd h
    Renamed-identical (atom _) (var _) _ _ h k = absurd h
    Renamed-identical (atom _) (int _) _ _ h k = absurd h
    Renamed-identical (atom _) (node _ _) _ _ h k = absurd h
    Renamed-identical (node _ _) (var _) _ _ h k = absurd h
    Renamed-identical (node _ _) (int _) _ _ h k = absurd h
    Renamed-identical (node _ _) (atom _) _ _ h k = absurd h
    Renamed-identical _ _ _ _ h k = absurd k

    RenamedAll-identical_all : (ts us vs ws : Trees) → RenamedAll R ts us → RenamedAll R vs ws → identical_all ts vs ≡ identical_all us ws
    RenamedAll-identical_all none none none none h k = refl
    RenamedAll-identical_all none none (more _ _) (more _ _) h k = refl
    RenamedAll-identical_all (more _ _) (more _ _) none none h k = refl
    RenamedAll-identical_all (more t ts) (more u us) (more v vs) (more w ws) h k =
        ap₂ (λ p q. p && q) (Renamed-identical t u v w h.0 k.0) (RenamedAll-identical_all ts us vs ws h.1 k.1)
    RenamedAll-identical_all none (more _ _) _ _ h k = absurd h
    RenamedAll-identical_all (more _ _) none _ _ h k = absurd h
    RenamedAll-identical_all _ _ _ _ h k = absurd k

  is_none-OptionZip : (s r : Option Subst) → OptionZip (RenamedSubst R) s r → is_none s ≡ is_none r
  is_none-OptionZip None None h = refl
  is_none-OptionZip (Some s) (Some r) h = refl
  is_none-OptionZip None (Some _) h = absurd h
  is_none-OptionZip (Some _) None h = absurd h

  RenamedSubst-succeeds_if : (b c : Bool) → b ≡ c → OptionZip (RenamedSubst R) (succeeds_if b) (succeeds_if c)
  RenamedSubst-succeeds_if b c e = related-if (OptionZip (RenamedSubst R)) b c e (Some []) None (Some []) None tt tt

  Renamed-unified_value : (t t' : Tree) (v w : Option ℤ) → Renamed R t t' → v ≡ w → OptionZip (RenamedSubst R) (unified_value t v) (unified_value t' w)
  Renamed-unified_value t t' None None h e = tt
  Renamed-unified_value t t' (Some z) (Some w) h e = let d : z ≡ w = cc in Renamed-mgu R one_one t t' (int z) (int w) h d
  Renamed-unified_value t t' None (Some w) h e = cc
  Renamed-unified_value t t' (Some z) None h e = cc

  Renamed-relation_answer : (r : Relation) (t t' u u' : Tree) → Renamed R t t' → Renamed R u u' → OptionZip (RenamedSubst R) (relation_answer r t u) (relation_answer r t' u')
  Renamed-relation_answer Unify t t' u u' h k = Renamed-mgu R one_one t t' u u' h k
  Renamed-relation_answer NotUnify t t' u u' h k =
      RenamedSubst-succeeds_if (is_none (mgu t u)) (is_none (mgu t' u')) (is_none-OptionZip (mgu t u) (mgu t' u') (Renamed-mgu R one_one t t' u u' h k))
  Renamed-relation_answer Same t t' u u' h k = RenamedSubst-succeeds_if (identical t u) (identical t' u') (Renamed-identical t t' u u' h k)
  Renamed-relation_answer NotSame t t' u u' h k = RenamedSubst-succeeds_if (not (identical t u)) (not (identical t' u')) (ap not (Renamed-identical t t' u u' h k))
  Renamed-relation_answer Is t t' u u' h k = Renamed-unified_value t t' (eval u) (eval u') h (Renamed-eval R u u' k)
  Renamed-relation_answer (Compare o) t t' u u' h k =
      RenamedSubst-succeeds_if (compare_values o (eval t) (eval u)) (compare_values o (eval t') (eval u')) (ap₂ (compare_values o) (Renamed-eval R t t' h) (Renamed-eval R u u' k))

  Renamed-named_answer : (r : Option Relation) (t t' u u' : Tree) → Renamed R t t' → Renamed R u u' → OptionZip (OptionZip (RenamedSubst R)) (named_answer r t u) (named_answer r t' u')
  Renamed-named_answer None t t' u u' h k = tt
  Renamed-named_answer (Some r) t t' u u' h k = Renamed-relation_answer r t t' u u' h k

  -- a built-in goal has related answers
  pub Renamed-builtin : (t u : Tree) → Renamed R t u → OptionZip (OptionZip (RenamedSubst R)) (builtin t) (builtin u)
  Renamed-builtin (var x) (var y) h = tt
  Renamed-builtin (int z) (int w) h = tt
  Renamed-builtin (atom a) (atom b) h = subst (λ c. OptionZip (OptionZip (RenamedSubst R)) (builtin (atom a)) (builtin (atom c))) h (go (a == TRUE) (a == FAIL))
    where
      go : (p q : Bool) → OptionZip (OptionZip (RenamedSubst R)) (if p then Some (Some []) else (if q then Some None else None)) (if p then Some (Some []) else (if q then Some None else None))
      go true q = tt
      go false true = tt
      go false false = tt
  Renamed-builtin (node a none) (node b none) h = tt
  Renamed-builtin (node a (more _ none)) (node b (more _ none)) h = tt
  Renamed-builtin (node a (more t (more v none))) (node b (more u (more w none))) h =
      subst (λ c. OptionZip (OptionZip (RenamedSubst R)) (named_answer (relation_named a) t v) (named_answer (relation_named c) u w)) h.0
      (Renamed-named_answer (relation_named a) t u v w h.1.0 h.1.1.0)
  Renamed-builtin (node a (more _ (more _ (more _ _)))) (node b (more _ (more _ (more _ _)))) h = tt
  Renamed-builtin (node a none) (node b (more _ none)) h = absurd h.1
  Renamed-builtin (node a none) (node b (more _ (more _ none))) h = absurd h.1
  Renamed-builtin (node a none) (node b (more _ (more _ (more _ _)))) h = absurd h.1
  Renamed-builtin (node a (more _ none)) (node b none) h = absurd h.1
  Renamed-builtin (node a (more _ (more _ none))) (node b none) h = absurd h.1
  Renamed-builtin (node a (more _ (more _ (more _ _)))) (node b none) h = absurd h.1
  Renamed-builtin (node a (more _ none)) (node b (more _ (more _ none))) h = absurd h.1.1
  Renamed-builtin (node a (more _ none)) (node b (more _ (more _ (more _ _)))) h = absurd h.1.1
  Renamed-builtin (node a (more _ (more _ none))) (node b (more _ none)) h = absurd h.1.1
  Renamed-builtin (node a (more _ (more _ (more _ _)))) (node b (more _ none)) h = absurd h.1.1
  Renamed-builtin (node a (more _ (more _ none))) (node b (more _ (more _ (more _ _)))) h = absurd h.1.1.1
  Renamed-builtin (node a (more _ (more _ (more _ _)))) (node b (more _ (more _ none))) h = absurd h.1.1.1
  Renamed-builtin _ _ h = absurd h

-- ---- the variables of an answer

module _ (P : ℕ → Type 0) where
  Local-succeeds_if : (b : Bool) → OptionAll (LocalSubst P) (succeeds_if b)
  Local-succeeds_if true = tt
  Local-succeeds_if false = tt

  Local-unified_value : (t : Tree) (v : Option ℤ) → Local P t → OptionAll (LocalSubst P) (unified_value t v)
  Local-unified_value t None h = tt
  Local-unified_value t (Some z) h = Local-mgu P t (int z) h tt

  Local-relation_answer : (r : Relation) (t u : Tree) → Local P t → Local P u → OptionAll (LocalSubst P) (relation_answer r t u)
  Local-relation_answer Unify t u h k = Local-mgu P t u h k
  Local-relation_answer NotUnify t u h k = Local-succeeds_if (is_none (mgu t u))
  Local-relation_answer Same t u h k = Local-succeeds_if (identical t u)
  Local-relation_answer NotSame t u h k = Local-succeeds_if (not (identical t u))
  Local-relation_answer Is t u h k = Local-unified_value t (eval u) h
  Local-relation_answer (Compare o) t u h k = Local-succeeds_if (compare_values o (eval t) (eval u))

  Local-named_answer : (r : Option Relation) (t u : Tree) → Local P t → Local P u → OptionAll (OptionAll (LocalSubst P)) (named_answer r t u)
  Local-named_answer None t u h k = tt
  Local-named_answer (Some r) t u h k = Local-relation_answer r t u h k

  -- a built-in goal's answer binds and mentions only variables of the goal
  pub Local-builtin : (t : Tree) → Local P t → OptionAll (OptionAll (LocalSubst P)) (builtin t)
  Local-builtin (var x) h = tt
  Local-builtin (int z) h = tt
  Local-builtin (atom a) h = go (a == TRUE) (a == FAIL)
    where
      go : (p q : Bool) → OptionAll (OptionAll (LocalSubst P)) (if p then Some (Some []) else (if q then Some None else None))
      go true q = tt
      go false true = tt
      go false false = tt
  Local-builtin (node a none) h = tt
  Local-builtin (node a (more t none)) h = tt
  Local-builtin (node a (more t (more u none))) h = Local-named_answer (relation_named a) t u h.0 h.1.0
  Local-builtin (node a (more t (more u (more v ts)))) h = tt
