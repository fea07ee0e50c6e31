use Rattle.std.proofs.Common.{◌≡◌, ℕ, sym, ◌∙◌}
use Rattle.ap_term.specs.Tree.{Tree, atom}
use Rattle.ap_cells.specs.declared.top.Top.TheVariants.{Free, Atom}
use Rattle.ap_match.specs.Fits.{Fits}
use Rattle.ap_match.proofs.Maps.{fits-top}
use Rattle.ap_match.proofs.Matches.{Becomes-asked, decided-atom}
use Rattle.ap_match.proofs.matching.match_atom.Goals as goal

pub returns-in-Free-clause-answered : goal.returns-in-Free-clause-answered
returns-in-Free-clause-answered c =
    Becomes-asked c.args.cells.now.cells c.bind_term.new.cells.cells (λ k. k c.in-Free.x ≡ atom c.args.name) (λ k. k c.args.place ≡ atom c.args.name) (λ k. Unit {0})
    (λ k h e. at k h ∙ e) (λ k h e. sym (at k h) ∙ e) c.bind_term.ensures.becomes
  where
    at : (k : ℕ → Tree) → Fits c.args.cells.now.cells k → k c.args.place ≡ k c.in-Free.x
    at k h = fits-top c.args.cells.now.cells k c.args.place (Free c.in-Free.x) h c.requires.inside c.in-Free.ensures.tree c.in-Free.ensures.inside

pub returns-in-Atom-clause-answered : goal.returns-in-Atom-clause-answered
returns-in-Atom-clause-answered c =
    decided-atom c.args.cells.now.cells c.args.place c.in-Atom.found c.args.name c.same_atom.result
    (λ k h. fits-top c.args.cells.now.cells k c.args.place (Atom c.in-Atom.found) h c.requires.inside c.in-Atom.ensures.tree c.in-Atom.ensures.inside) c.same_atom.ensures
