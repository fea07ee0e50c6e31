use Rattle.std.proofs.Common.{◌≡◌, ℕ, sym, ◌∙◌}
use Rattle.ap_term.specs.Tree.{Tree, node}
use Rattle.ap_cells.specs.declared.top.Top.TheVariants.{Node}
use Rattle.ap_instr.specs.Runs.{spread}
use Rattle.ap_match.specs.Fits.{Fits}
use Rattle.ap_match.proofs.Maps.{fits-top, answered}
use Rattle.ap_match.proofs.Matches.{Becomes-asked}
use Rattle.ap_match.proofs.matching.equate_compound.Goals as goal

pub returns-then-are_free_of-clause-answered : goal.returns-then-are_free_of-clause-answered
returns-then-are_free_of-clause-answered c =
    let old = c.args.cells.now.cells in
    Becomes-asked old c.bind_structure.new.cells.cells (λ k. k c.args.x ≡ node c.args.name (spread k c.args.first c.args.count)) (λ k. k c.args.x ≡ k c.args.whole) (λ k. Unit {0}) (λ k h e. e ∙ sym (at k h)) (λ k h e. e ∙ at k h) c.bind_structure.ensures.becomes
  where
    at : (k : ℕ → Tree) → Fits c.args.cells.now.cells k → k c.args.whole ≡ node c.args.name (spread k c.args.first c.args.count)
    at k h = fits-top c.args.cells.now.cells k c.args.whole (Node c.args.name c.args.first c.args.count) h c.requires.inside.1 c.requires.compound c.requires.args

pub returns-clause-answered : goal.returns-clause-answered
returns-clause-answered c =
    answered c.args.cells.now.cells c.unify.new.cells.cells c.args.x c.args.whole c.requires.inside.0 c.requires.inside.1 c.unify.ensures.len c.in_ok-answer.answer c.in_ok-answer.ensures.answer
