use Rattle.std.proofs.Common.{◌≡◌, false, slice_get, Some, None, sym, subst, rules, w64}
use Rattle.std.specs.Prelude.{FitsSigned}
use Rattle.std.proofs.lemmas.Int.{to_z-of_z}
use Rattle.ap_term.specs.Tree.{int}
use Rattle.ap_match.specs.Fits.{Answered}
use Rattle.ap_instr.specs.Step.{with_integer, unify_constant}
use Rattle.ap_steps.specs.Moves.{held}
use Rattle.ap_steps.specs.Found.{Matched}
use Rattle.ap_steps.proofs.Finding.{constant-matched}
use Rattle.ap_steps.proofs.found.match_listed.Goals as goal

pub returns-in-Some-clause-matched : goal.returns-in-Some-clause-matched
returns-in-Some-clause-matched c =
    let old = c.args.cells.now.cells in
    let new = c.match_integer.new.cells.cells in
    let b = c.match_integer.result in
    let z : FitsSigned w64 c.in-Some.value = search rules in
    let e : slice_get c.args.code.now.integers c.args.i ≡ Some c.in-Some.value = sym c.in-Some.ensures in
    subst (λ o. Matched old (held c.args.x.now) (held c.args.y.now) (with_integer o unify_constant) c.args.place new (held c.args.x.now) (held c.args.y.now) b) (sym e)
    (constant-matched old new (held c.args.x.now) (held c.args.y.now) c.requires.x c.requires.y (int c.in-Some.value) c.args.place b
    (subst (λ v. Answered old new (λ k. k c.args.place ≡ int v) b) (to_z-of_z w64 c.in-Some.value z) c.match_integer.ensures.answered))

pub returns-in-None-clause-matched : goal.returns-in-None-clause-matched
returns-in-None-clause-matched c =
    let e : slice_get c.args.code.now.integers c.args.i ≡ None = sym c.in-None.ensures in
    subst (λ o. Matched c.args.cells.now.cells (held c.args.x.now) (held c.args.y.now) (with_integer o unify_constant) c.args.place c.args.cells.now.cells (held c.args.x.now) (held c.args.y.now) false) (sym e) (λ m is less k bs h. h.1)
