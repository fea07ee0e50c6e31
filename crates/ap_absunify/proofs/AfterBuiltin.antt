-- The state after a built-in goal covers.
use Rattle.std.proofs.Common.{◌≡◌, ℕ, ℤ, inl, inr, Bool, true, false, not, ◌||◌, ◌==◌, if◌then◌else◌, is_none, [], Option, Some, None, IsTrue, refl, sym, ◌∙◌, subst}
use Rattle.std.proofs.lemmas.Bool.{false≢true}
use Rattle.std.specs.Prelude.{Result, Ok, Err}
use Rattle.std.specs.Result.{result_ok}
use Rattle.ap_term.specs.declared.builtins.Op.{Op}
use Rattle.ap_term.specs.declared.builtins.Operation.{Operation}
use Rattle.ap_term.specs.declared.builtins.Relation.{Relation}
use Rattle.ap_term.specs.declared.builtins.Relation.TheVariants.{Unify, NotUnify, Same, NotSame, Is, Compare}
use Rattle.ap_term.specs.declared.fixed.TheConstants.{TRUE, FAIL, MINUS}
use Rattle.ap_term.specs.Tree.{Tree, var, int, atom, node, none, more}
use Rattle.ap_term.specs.Substitution.{instance, Subst, value}
use Rattle.ap_term.specs.Vars.{occurs}
use Rattle.ap_term.specs.Unification.{mgu}
use Rattle.ap_term.specs.Unifier.{IsMostGeneral}
use Rattle.ap_sharing.specs.VarSet.{has, union}
use Rattle.ap_absunify.specs.TermSets.{var_set}
use Rattle.ap_absunify.specs.MostGeneral.{MostGeneral}
use Rattle.ap_absunify.specs.declared.states.State.{State}
use Rattle.ap_absunify.specs.declared.states.State.TheVariants.{Unreachable}
use Rattle.ap_absunify.specs.State.{Covers, ground}
use Rattle.ap_absunify.specs.AfterBuiltin.{after_is, after_relation, after_builtin}
use Rattle.ap_absunify.proofs.AfterEqual.{after_equal-covers}
use Rattle.ap_absunify.proofs.AfterUnify.{into_tree}
use Rattle.ap_absunify.proofs.Known.{set-known, after_is-covers}
use Rattle.ap_absunify.proofs.Renamed.{Covers-same}
use Rattle.ap_absunify.proofs.Vars.{or_cases, or_false}
use Rattle.ap_sharing.proofs.Elements.{clash, has-union}
use Rattle.ap_term.proofs.Copies.{instance_var}
use Rattle.ap_term.proofs.Solutions.{same_var}
use Rattle.ap_term.proofs.Solvable.{mgu-general}
use Rattle.ap_term.specs.declared.faults.Fault.{Fault}
use Rattle.ap_term.specs.declared.faults.Fault.TheVariants.{WrongType}
use Rattle.ap_term.specs.Arithmetic.{evaluated, eval, negated, value_of, operation_named, compare_values}
use Rattle.ap_term.specs.Builtins.{relation_named, succeeds_if, unified_value, named_answer, builtin}
use Rattle.ap_term.specs.Identical.{identical}
use Rattle.ap_term.specs.WellFormed.{callable}

-- what has a value
abbrev pub HasValue : Option ℤ → Type 0
HasValue None = ⊥
HasValue (Some z) = Unit {0}

negated-value : (b : Bool) (x : Result ℤ Fault) → HasValue (result_ok (if b then negated x else Err WrongType)) → HasValue (result_ok x)
negated-value true (Err e) h = absurd h
negated-value true (Ok z) h = tt
negated-value false x h = absurd h

value_of-values : (o : Option Operation) (x y : Result ℤ Fault) → HasValue (result_ok (value_of o x y)) → HasValue (result_ok x) × HasValue (result_ok y)
value_of-values None x y h = absurd h
value_of-values (Some o) (Err e) y h = absurd h
value_of-values (Some o) (Ok x) (Err e) h = absurd h
value_of-values (Some o) (Ok x) (Ok y) h = (tt, tt)

-- an expression that has a value has no variable
eval-ground : (t : Tree) → HasValue (eval t) → (r : ℕ) → occurs r t ≡ false
eval-ground (var x) h r = absurd h
eval-ground (int z) h r = refl
eval-ground (atom a) h r = absurd h
eval-ground (node a none) h r = absurd h
eval-ground (node a (more t none)) h r =
    or_false (occurs r t) false (eval-ground t (negated-value (a == MINUS) (evaluated t) h) r) refl
eval-ground (node a (more t (more u none))) h r =
    let v = value_of-values (operation_named a) (evaluated t) (evaluated u) h in
    or_false (occurs r t) (occurs r u || false) (eval-ground t v.0 r) (or_false (occurs r u) false (eval-ground u v.1 r) refl)
eval-ground (node a (more t (more u (more w ws)))) h r = absurd h

has_value : (o : Option ℤ) (z : ℤ) → o ≡ Some z → HasValue o
has_value o z e = subst HasValue (sym e) tt

-- a goal that binds nothing
unbound : (s : State) (f : ℕ → Tree) (b : Subst) → [] ≡ b → Covers s f → Covers s (λ x. instance (value b) (f x))
unbound s f b e c = subst (λ d. Covers s (λ x. instance (value d) (f x))) e (Covers-same s f (λ x. instance (λ y. var y) (f x)) (λ x. sym (instance_var (f x))) c)

succeeded : (t : Bool) (b : Subst) → succeeds_if t ≡ Some b → (t ≡ true) × ([] ≡ b)
succeeded true b h = let e : [] ≡ b = cc in (refl, e)
succeeded false b h = absurd (cc)

compared : (o : Op) (x y : Option ℤ) → compare_values o x y ≡ true → HasValue x × HasValue y
compared o None y h = absurd (false≢true h)
compared o (Some x) None h = absurd (false≢true h)
compared o (Some x) (Some y) h = (tt, tt)

-- what binds nothing leaves the state as it was
tested : (s : State) (f : ℕ → Tree) (b : Subst) (t : Bool) → Some (succeeds_if t) ≡ Some (Some b) → Covers s f → Covers s (λ x. instance (value b) (f x))
tested s f b t h c = let e : succeeds_if t ≡ Some b = cc in unbound s f b (succeeded t b e).1 c

-- what has values under f is ground there
values-known : (s : State) (t u : Tree) (f : ℕ → Tree) → HasValue (eval (instance f t)) × HasValue (eval (instance f u)) → Covers s f → Covers (ground s (union (var_set t) (var_set u))) f
values-known s t u f v c = set-known s (union (var_set t) (var_set u)) f no_var c
  where
    no_var : (r z : ℕ) → has (union (var_set t) (var_set u)) z ≡ true → occurs r (f z) ≡ true → ⊥
    no_var r z i j =
        elim (or_cases (has (var_set t) z) (has (var_set u) z) (sym (has-union (var_set t) (var_set u) z) ∙ i)) [
          | inl k ↦ clash (occurs r (instance f t)) (into_tree f t r z k j) (eval-ground (instance f t) v.0 r)
          | inr k ↦ clash (occurs r (instance f u)) (into_tree f u r z k j) (eval-ground (instance f u) v.1 r)
        ]

compare-covers : (s : State) (o : Op) (t u : Tree) (f : ℕ → Tree) (b : Subst) → Covers s f
    → Some (succeeds_if (compare_values o (eval (instance f t)) (eval (instance f u)))) ≡ Some (Some b)
    → Covers (ground s (union (var_set t) (var_set u))) (λ x. instance (value b) (f x))
compare-covers s o t u f b c h =
    let e : succeeds_if (compare_values o (eval (instance f t)) (eval (instance f u))) ≡ Some b = cc in
    let k = succeeded (compare_values o (eval (instance f t)) (eval (instance f u))) b e in
    unbound (ground s (union (var_set t) (var_set u))) f b k.1 (values-known s t u f (compared o (eval (instance f t)) (eval (instance f u)) k.0) c)

relation-covers : (s : State) (r : Option Relation) (t u : Tree) (f : ℕ → Tree) (b : Subst) → Covers s f
    → named_answer r (instance f t) (instance f u) ≡ Some (Some b) → Covers (after_relation s r t u) (λ x. instance (value b) (f x))
relation-covers s None t u f b c h = absurd (cc)
relation-covers s (Some Unify) t u f b c h = after_equal-covers s t u f (value b) c (general (mgu (instance f t) (instance f u)) e (mgu-general (instance f t) (instance f u)))
  where
    e : mgu (instance f t) (instance f u) ≡ Some b
    e = cc

    general : (o : Option Subst) → o ≡ Some b → IsMostGeneral (instance f t) (instance f u) o → MostGeneral (instance f t) (instance f u) (value b)
    general o p m = subst (IsMostGeneral (instance f t) (instance f u)) p m
relation-covers s (Some NotUnify) t u f b c h = tested s f b (is_none (mgu (instance f t) (instance f u))) h c
relation-covers s (Some Same) t u f b c h = tested s f b (identical (instance f t) (instance f u)) h c
relation-covers s (Some NotSame) t u f b c h = tested s f b (not (identical (instance f t) (instance f u))) h c
relation-covers s (Some Is) t u f b c h = go (eval (instance f u)) refl e
  where
    e : unified_value (instance f t) (eval (instance f u)) ≡ Some b
    e = cc

    go : (o : Option ℤ) → eval (instance f u) ≡ o → unified_value (instance f t) o ≡ Some b → Covers (after_is s t u) (λ x. instance (value b) (f x))
    go None p q = absurd (cc)
    go (Some z) p q =
        after_is-covers s t u f (value b) z (eval-ground (instance f u) (has_value (eval (instance f u)) z p))
        (subst (IsMostGeneral (instance f t) (int z)) q (mgu-general (instance f t) (int z))) c
relation-covers s (Some (Compare o)) t u f b c h = compare-covers s o t u f b c h

pub after_builtin-covers : (s : State) (goal : Tree) (f : ℕ → Tree) (b : Subst) → IsTrue (callable goal) → Covers s f → builtin (instance f goal) ≡ Some (Some b)
    → Covers (after_builtin s goal) (λ x. instance (value b) (f x))
after_builtin-covers s (var x) f b q c h = absurd (false≢true q)
after_builtin-covers s (int z) f b q c h = absurd (false≢true q)
after_builtin-covers s (atom a) f b q c h = go (a == TRUE) (a == FAIL) refl refl h
  where
    go : (x y : Bool) → (a == TRUE) ≡ x → (a == FAIL) ≡ y → (if x then Some (Some []) else (if y then Some None else None)) ≡ Some (Some b)
        → Covers (if y then Unreachable else s) (λ x. instance (value b) (f x))
    go true true i j e = let k : TRUE ≡ FAIL = sym (same_var a TRUE i) ∙ same_var a FAIL j in absurd (cc)
    go true false i j e = let k : [] ≡ b = cc in unbound s f b k c
    go false true i j e = absurd (cc)
    go false false i j e = absurd (cc)
after_builtin-covers s (node a none) f b q c h = absurd (cc)
after_builtin-covers s (node a (more t none)) f b q c h = absurd (cc)
after_builtin-covers s (node a (more t (more u none))) f b q c h = relation-covers s (relation_named a) t u f b c h
after_builtin-covers s (node a (more t (more u (more w ws)))) f b q c h = absurd (cc)
