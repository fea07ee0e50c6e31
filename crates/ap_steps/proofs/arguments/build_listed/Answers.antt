use Rattle.std.proofs.Common.{◌≡◌, false, slice_get, Some, None, sym, ◌∙◌, subst, rules, w64}
use Rattle.std.specs.Prelude.{FitsSigned}
use Rattle.std.proofs.lemmas.Int.{to_z-of_z}
use Rattle.ap_term.specs.Tree.{int}
use Rattle.ap_instr.specs.Step.{with_integer, unify_constant}
use Rattle.ap_steps.specs.Moves.{held}
use Rattle.ap_steps.specs.Arguments.{Built, BuiltOr}
use Rattle.ap_steps.proofs.arguments.build_listed.Goals as goal

pub returns-in-Some-clause-built : goal.returns-in-Some-clause-built
returns-in-Some-clause-built c =
    let z : FitsSigned w64 c.in-Some.value = search rules in
    let e : slice_get c.args.code.now.integers c.args.i ≡ Some c.in-Some.value = sym c.integer_at.ensures ∙ c.in-Some.is in
    λ whole xs ys.
    subst (λ o. Built c.args.cells.now.cells (held xs) (held ys) (with_integer o unify_constant) c.build_integer.new.cells.cells (held xs) (held ys)) (sym e)
    (subst (λ v. Built c.args.cells.now.cells (held xs) (held ys) (unify_constant (int v)) c.build_integer.new.cells.cells (held xs) (held ys)) (to_z-of_z w64 c.in-Some.value z) (c.build_integer.ensures.built xs ys))

pub returns-in-None-clause-built : goal.returns-in-None-clause-built
returns-in-None-clause-built c =
    let e : slice_get c.args.code.now.integers c.args.i ≡ None = sym c.integer_at.ensures ∙ c.in-None.is in
    λ whole xs ys.
    subst (λ o. BuiltOr whole c.args.cells.now.cells (held xs) (held ys) (with_integer o unify_constant) c.args.cells.now.cells (held xs) (held ys) false) (sym e) (λ l m is bs apart h. h.1)
