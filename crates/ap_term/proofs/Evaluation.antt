-- What expressions come to.
use Rattle.std.proofs.Common.{◌≡◌, ℕ, false, Option, Some, None, ℤ, refl, ap, sym, ◌∙◌}
use Rattle.std.proofs.lemmas.Bool.{false≢true}
use Rattle.std.specs.Prelude.{Result, Ok, Err, ◌↔◌}
use Rattle.std.specs.Result.{result_ok, result_err}
use Rattle.ap_term.specs.declared.faults.Fault.{Fault}
use Rattle.ap_term.specs.declared.builtins.Operation.{Operation}
use Rattle.ap_term.specs.declared.builtins.Relation.{Relation}
use Rattle.ap_term.specs.declared.builtins.Relation.TheVariants.{Unify, NotUnify, Same, NotSame, Is, Compare}
use Rattle.ap_term.specs.Tree.{Tree, var, int, atom, node, none, more}
use Rattle.ap_term.specs.Arithmetic.{value_of, operation_named, evaluated}
use Rattle.ap_term.specs.Builtins.{relation_named}
use Rattle.ap_term.specs.Faults.{relation_fault}
use Rattle.ap_term.specs.Loud.{evaluates}
use Rattle.ap_term.specs.Laws.{HasOne, EvaluationLaw, FaultLaw}

-- it is a value, or a fault
either : (r : Result ℤ Fault) → (result_ok r ≡ None) ↔ HasOne (result_err r)
either (Ok z) = (λ e. cc, λ h. absurd h)
either (Err e) = (λ q. tt, λ h. refl)

pub is-value : (r : Result ℤ Fault) (z : ℤ) → result_ok r ≡ Some z → r ≡ Ok z
is-value (Ok x) z h = cc
is-value (Err e) z h = cc

pub is-fault : (r : Result ℤ Fault) (e : Fault) → result_err r ≡ Some e → r ≡ Err e
is-fault (Ok x) e h = cc
is-fault (Err i) e h = cc

abbrev pub two : ℕ → Tree → Tree → Tree
two a t u = node a (more t (more u none))

operands : (a : ℕ) (o : Operation) (t u : Tree) (r q : Result ℤ Fault) → operation_named a ≡ Some o → evaluated t ≡ r → evaluated u ≡ q → evaluated (two a t u) ≡ value_of (Some o) r q
operands a o t u r q h e i = ap (λ n. value_of n (evaluated t) (evaluated u)) h ∙ ap (λ s. value_of (Some o) s (evaluated u)) e ∙ ap (value_of (Some o) r) i

pub evaluation : EvaluationLaw
evaluation = record {
  either = λ t. either (evaluated t);
  left_first = λ a o t u e h l. ap result_err (operands a o t u (Err e) (evaluated u) h (is-fault (evaluated t) e l) refl);
  then_right = λ a o t u x e h l r. ap result_err (operands a o t u (Ok x) (Err e) h (is-value (evaluated t) x l) (is-fault (evaluated u) e r));
  of_values = λ a o t u x y h l r. operands a o t u (Ok x) (Ok y) h (is-value (evaluated t) x l) (is-value (evaluated u) y r);
}

pub only_arithmetic : FaultLaw
only_arithmetic (var x) h = refl
only_arithmetic (int z) h = refl
only_arithmetic (atom a) h = refl
only_arithmetic (node a none) h = refl
only_arithmetic (node a (more t none)) h = refl
only_arithmetic (node a (more t (more u none))) h = go (relation_named a) h
  where
    go : (r : Option Relation) → evaluates r ≡ false → relation_fault r t u ≡ None
    go None h = refl
    go (Some Unify) h = refl
    go (Some NotUnify) h = refl
    go (Some Same) h = refl
    go (Some NotSame) h = refl
    go (Some Is) h = absurd (false≢true (sym h))
    go (Some (Compare o)) h = absurd (false≢true (sym h))
only_arithmetic (node a (more t (more u (more v ts)))) h = refl
