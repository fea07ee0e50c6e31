use Rattle.std.proofs.Common.{◌≡◌, ℕ, ap, sym, ◌∙◌, subst}
use Rattle.ap_term.specs.Tree.{Tree}
use Rattle.ap_index.specs.Keys.{IsKeyOf}
use Rattle.ap_index.specs.Pairs.{pair_for}
use Rattle.ap_match.specs.Fits.{Fits}
use Rattle.ap_steps.specs.Moves.{held}
use Rattle.ap_control.specs.Choosing.{IsPairTold}
use Rattle.ap_control.proofs.Pairs.{pair-told}
use Rattle.ap_control.proofs.telling.told_by_two.Goals as goal

pub returns-in-Some : goal.returns-in-Some
returns-in-Some c = λ code ls h key.
    let cs = c.args.cells.now.cells in
    let x = held c.args.x.now in
    let pairs = c.args.row.now.pairs in
    let one = c.args.own.key in
    let two = c.in-Some.other.key in
    let argument : c.argument-2.result ≡ pairs.argument = c.argument-2.ensures ∙ ap (λ p. p.argument) c.pairs-pairs.ensures in
    let place : c.place_in.result ≡ x pairs.argument = c.place_in.ensures ∙ ap x argument in
    let second : (k : ℕ → Tree) → Fits cs k → IsKeyOf two (k (x pairs.argument)) = subst (λ p. (k : ℕ → Tree) → Fits cs k → IsKeyOf two (k p)) place c.in-Some.ensures in
    subst (IsPairTold code cs x ls) (sym (c.told.ensures ∙ ap (λ p. pair_for p one two) c.pairs-pairs.ensures))
    (pair-told code cs x pairs.argument one two key second ls (pair_for pairs one two) (h one two))
