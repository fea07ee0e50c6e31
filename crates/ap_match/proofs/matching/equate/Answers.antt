use Rattle.std.proofs.Common.{◌≡◌, ℕ, sym, ◌∙◌, rules, w64}
use Rattle.std.specs.Prelude.{FitsSigned}
use Rattle.std.proofs.lemmas.Int.{to_z-of_z}
use Rattle.ap_term.specs.Tree.{Tree, int, atom}
use Rattle.ap_cells.specs.declared.top.Top.TheVariants.{Free, Int, Atom}
use Rattle.ap_match.specs.Fits.{Fits, Answered}
use Rattle.ap_match.proofs.Maps.{fits-top}
use Rattle.ap_match.proofs.Matches.{Answered-asked}
use Rattle.ap_match.proofs.matching.equate.Goals as goal

pub returns-in_ok-bound-in-Free-clause-answered : goal.returns-in_ok-bound-in-Free-clause-answered
returns-in_ok-bound-in-Free-clause-answered c =
    let old = c.args.cells.now.cells in
    let at : (k : ℕ → Tree) → Fits old k → k c.args.a ≡ k c.in-Free.x = λ k h. fits-top old k c.args.a (Free c.in-Free.x) h c.requires.0 c.in-Free.ensures.tree c.in-Free.ensures.inside in
    Answered-asked old c.equate_unbound.new.cells.cells (λ k. k c.in-Free.x ≡ k c.args.b) (λ k. k c.args.a ≡ k c.args.b) (λ k h e. at k h ∙ e) (λ k h e. sym (at k h) ∙ e) c.in_ok-bound-in-Free.bound c.in_ok-bound-in-Free.ensures.answered

pub returns-in-Int-clause-answered : goal.returns-in-Int-clause-answered
returns-in-Int-clause-answered c =
    let old = c.args.cells.now.cells in
    let new = c.match_integer.new.cells.cells in
    let z : FitsSigned w64 c.in-Int.value = search rules in
    let at : (k : ℕ → Tree) → Fits old k → k c.args.a ≡ int c.in-Int.value = λ k h. fits-top old k c.args.a (Int c.in-Int.value) h c.requires.0 c.in-Int.ensures.tree c.in-Int.ensures.inside in
    let b : Answered old new (λ k. k c.args.b ≡ int c.in-Int.value) c.match_integer.result = simp (to_z-of_z w64 c.in-Int.value z) at c.match_integer.ensures.answered in
    Answered-asked old new (λ k. k c.args.b ≡ int c.in-Int.value) (λ k. k c.args.a ≡ k c.args.b) (λ k h e. at k h ∙ sym e) (λ k h e. sym e ∙ at k h) c.match_integer.result b

pub returns-in-Atom-clause-answered : goal.returns-in-Atom-clause-answered
returns-in-Atom-clause-answered c =
    let old = c.args.cells.now.cells in
    let at : (k : ℕ → Tree) → Fits old k → k c.args.a ≡ atom c.in-Atom.name = λ k h. fits-top old k c.args.a (Atom c.in-Atom.name) h c.requires.0 c.in-Atom.ensures.tree c.in-Atom.ensures.inside in
    Answered-asked old c.match_atom.new.cells.cells (λ k. k c.args.b ≡ atom c.in-Atom.name) (λ k. k c.args.a ≡ k c.args.b) (λ k h e. at k h ∙ sym e) (λ k h e. sym e ∙ at k h) c.match_atom.result c.match_atom.ensures.answered
