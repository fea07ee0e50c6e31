use Rattle.std.proofs.Common.{◌≡◌, ℕ, sym, ap₂, ◌∙◌, rules, w64}
use Rattle.std.specs.Prelude.{FitsSigned}
use Rattle.std.specs.Ordering.{int_eq}
use Rattle.std.proofs.lemmas.Int.{to_z-of_z}
use Rattle.ap_term.specs.Tree.{Tree, int}
use Rattle.ap_cells.specs.declared.top.Top.TheVariants.{Free, Int}
use Rattle.ap_match.specs.Fits.{Fits, Becomes}
use Rattle.ap_match.proofs.Maps.{fits-top}
use Rattle.ap_match.proofs.Matches.{Becomes-asked, decided-integer}
use Rattle.ap_match.proofs.matching.match_integer.Goals as goal

pub returns-in-Free-clause-answered : goal.returns-in-Free-clause-answered
returns-in-Free-clause-answered c =
    let b : Becomes c.args.cells.now.cells c.bind_term.new.cells.cells (λ k. k c.in-Free.x ≡ int c.args.value) (λ k. Unit {0}) = simp (to_z-of_z w64 c.args.value c.ranges.value) at c.bind_term.ensures.becomes in
    Becomes-asked c.args.cells.now.cells c.bind_term.new.cells.cells (λ k. k c.in-Free.x ≡ int c.args.value) (λ k. k c.args.place ≡ int c.args.value) (λ k. Unit {0})
    (λ k h e. at k h ∙ e) (λ k h e. sym (at k h) ∙ e) b
  where
    at : (k : ℕ → Tree) → Fits c.args.cells.now.cells k → k c.args.place ≡ k c.in-Free.x
    at k h = fits-top c.args.cells.now.cells k c.args.place (Free c.in-Free.x) h c.requires.inside c.in-Free.ensures.tree c.in-Free.ensures.inside

pub returns-in-Int-clause-answered : goal.returns-in-Int-clause-answered
returns-in-Int-clause-answered c =
    let z : FitsSigned w64 c.in-Int.found = search rules in
    decided-integer c.args.cells.now.cells c.args.place c.in-Int.found c.args.value c.same_integer.result
    (λ k h. fits-top c.args.cells.now.cells k c.args.place (Int c.in-Int.found) h c.requires.inside c.in-Int.ensures.tree c.in-Int.ensures.inside)
    (c.same_integer.ensures ∙ ap₂ int_eq (to_z-of_z w64 c.in-Int.found z) (to_z-of_z w64 c.args.value c.ranges.value))
