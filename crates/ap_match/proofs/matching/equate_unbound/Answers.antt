use Rattle.std.proofs.Common.{◌≡◌, ℕ, sym, ◌∙◌, rules, w64}
use Rattle.std.specs.Prelude.{FitsSigned}
use Rattle.std.proofs.lemmas.Int.{to_z-of_z}
use Rattle.ap_term.specs.Tree.{Tree, int, atom}
use Rattle.ap_cells.specs.declared.top.Top.TheVariants.{Free, Int, Atom}
use Rattle.ap_match.specs.Fits.{Fits, Becomes}
use Rattle.ap_match.proofs.Maps.{fits-top}
use Rattle.ap_match.proofs.Matches.{Becomes-asked}
use Rattle.ap_match.proofs.matching.equate_unbound.Goals as goal

pub returns-in-Free-clause-answered : goal.returns-in-Free-clause-answered
returns-in-Free-clause-answered c =
    let old = c.args.cells.now.cells in
    let at : (k : ℕ → Tree) → Fits old k → k c.args.to ≡ k c.in-Free.y = λ k h. fits-top old k c.args.to (Free c.in-Free.y) h c.requires.inside.1 c.in-Free.ensures.tree c.in-Free.ensures.inside in
    Becomes-asked old c.join.new.cells.cells (λ k. k c.args.x ≡ k c.in-Free.y) (λ k. k c.args.x ≡ k c.args.to) (λ k. Unit {0}) (λ k h e. e ∙ sym (at k h)) (λ k h e. e ∙ at k h) c.join.ensures.becomes

pub returns-in-Int-clause-answered : goal.returns-in-Int-clause-answered
returns-in-Int-clause-answered c =
    let old = c.args.cells.now.cells in
    let z : FitsSigned w64 c.in-Int.value = search rules in
    let at : (k : ℕ → Tree) → Fits old k → k c.args.to ≡ int c.in-Int.value = λ k h. fits-top old k c.args.to (Int c.in-Int.value) h c.requires.inside.1 c.in-Int.ensures.tree c.in-Int.ensures.inside in
    let b : Becomes old c.bind_term.new.cells.cells (λ k. k c.args.x ≡ int c.in-Int.value) (λ k. Unit {0}) = simp (to_z-of_z w64 c.in-Int.value z) at c.bind_term.ensures.becomes in
    Becomes-asked old c.bind_term.new.cells.cells (λ k. k c.args.x ≡ int c.in-Int.value) (λ k. k c.args.x ≡ k c.args.to) (λ k. Unit {0}) (λ k h e. e ∙ sym (at k h)) (λ k h e. e ∙ at k h) b

pub returns-in-Atom-clause-answered : goal.returns-in-Atom-clause-answered
returns-in-Atom-clause-answered c =
    let old = c.args.cells.now.cells in
    let at : (k : ℕ → Tree) → Fits old k → k c.args.to ≡ atom c.in-Atom.constant = λ k h. fits-top old k c.args.to (Atom c.in-Atom.constant) h c.requires.inside.1 c.in-Atom.ensures.tree c.in-Atom.ensures.inside in
    Becomes-asked old c.bind_term-in-Atom.new.cells.cells (λ k. k c.args.x ≡ atom c.in-Atom.constant) (λ k. k c.args.x ≡ k c.args.to) (λ k. Unit {0}) (λ k h e. e ∙ sym (at k h)) (λ k h e. e ∙ at k h) c.bind_term-in-Atom.ensures.becomes
