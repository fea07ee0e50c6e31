use Rattle.std.proofs.Common.{◌≡◌, slice_get, Some, sym, subst, rules, w64}
use Rattle.std.specs.Prelude.{FitsSigned}
use Rattle.std.proofs.lemmas.Int.{to_z-of_z}
use Rattle.ap_term.specs.Tree.{int}
use Rattle.ap_instr.specs.Step.{with_integer, get_constant}
use Rattle.ap_steps.specs.Moves.{held, Taken}
use Rattle.ap_steps.proofs.run.get_listed.Goals as goal

pub returns-in-Some-clause-taken : goal.returns-in-Some-clause-taken
returns-in-Some-clause-taken c =
    let z : FitsSigned w64 c.in-Some.value = search rules in
    let e : slice_get c.args.code.now.integers c.args.i ≡ Some c.in-Some.value = sym c.in-Some.ensures in
    subst (λ o. Taken c.args.cells.now.cells (held c.args.x.now) (held c.args.y.now) (with_integer o (λ t. get_constant t c.args.a)) c.get_integer.new.cells.cells (held c.args.x.now) (held c.args.y.now) c.get_integer.result) (sym e)
    (subst (λ z. Taken c.args.cells.now.cells (held c.args.x.now) (held c.args.y.now) (get_constant (int z) c.args.a) c.get_integer.new.cells.cells (held c.args.x.now) (held c.args.y.now) c.get_integer.result) (to_z-of_z w64 c.in-Some.value z)
    c.get_integer.ensures.taken)
