use Rattle.std.proofs.Common.{◌≡◌, Some, sym, ◌∙◌, subst, rules, w64}
use Rattle.std.specs.Prelude.{FitsSigned}
use Rattle.std.proofs.lemmas.Int.{to_z-of_z}
use Rattle.ap_term.specs.Tree.{int}
use Rattle.ap_term.specs.Arithmetic.{eval}
use Rattle.ap_cells.specs.Trees.{tree_at, trees}
use Rattle.ap_match.specs.Fits.{Answered}
use Rattle.ap_standing.specs.Solved.{GivenValue}
use Rattle.ap_control.proofs.relations.give_value.Goals as goal

pub returns-in-Some-clause-given : goal.returns-in-Some-clause-given
returns-in-Some-clause-given c =
    let z : FitsSigned w64 c.in-Some.value = search rules in
    let e : eval (tree_at (trees c.args.cells.now.cells) c.args.b) ≡ Some c.in-Some.value = sym c.in_ok-value.ensures ∙ c.in-Some.is in
    subst (λ o. GivenValue o c.args.cells.now.cells c.match_integer.new.cells.cells c.args.a c.match_integer.result) (sym e)
    (subst (λ v. Answered c.args.cells.now.cells c.match_integer.new.cells.cells (λ k. k c.args.a ≡ int v) c.match_integer.result) (to_z-of_z w64 c.in-Some.value z) c.match_integer.ensures.answered)
