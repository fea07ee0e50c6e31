use Rattle.std.proofs.Common.{◌≡◌, ℕ, sym, ◌∙◌}
use Rattle.ap_term.specs.Tree.{Tree}
use Rattle.ap_cells.specs.declared.top.Top.TheVariants.{Free}
use Rattle.ap_match.specs.Fits.{Fits}
use Rattle.ap_match.proofs.Maps.{fits-top, answered}
use Rattle.ap_match.proofs.Matches.{Answered-asked}
use Rattle.ap_match.proofs.matching.equate_with_compound.Goals as goal

pub returns-in-Free-clause-answered : goal.returns-in-Free-clause-answered
returns-in-Free-clause-answered c =
    let old = c.args.cells.now.cells in
    let at : (k : ℕ → Tree) → Fits old k → k c.args.b ≡ k c.in-Free.y = λ k h. fits-top old k c.args.b (Free c.in-Free.y) h c.requires.1 c.in-Free.ensures.tree c.in-Free.ensures.inside in
    Answered-asked old c.equate_unbound.new.cells.cells (λ k. k c.in-Free.y ≡ k c.args.a) (λ k. k c.args.a ≡ k c.args.b) (λ k h e. sym e ∙ sym (at k h)) (λ k h e. sym (at k h) ∙ sym e) c.in_ok-bound.bound c.in_ok-bound.ensures.answered

pub returns-clause-answered : goal.returns-clause-answered
returns-clause-answered c =
    answered c.args.cells.now.cells c.unify.new.cells.cells c.args.a c.args.b c.requires.0 c.requires.1 c.unify.ensures.len c.in_ok-answer.answer c.in_ok-answer.ensures.answer
