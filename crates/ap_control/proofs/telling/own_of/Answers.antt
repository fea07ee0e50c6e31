use Rattle.std.proofs.Common.{ℕ, sym, subst}
use Rattle.ap_term.specs.Tree.{Tree}
use Rattle.ap_index.specs.Keys.{IsKeyOf}
use Rattle.ap_match.specs.Fits.{Fits}
use Rattle.ap_control.proofs.telling.own_of.Goals as goal

pub returns-in-Some : goal.returns-in-Some
returns-in-Some c = subst (λ key. (k : ℕ → Tree) → Fits c.args.cells.now.cells k → IsKeyOf key (k c.args.place)) (sym c.new.ensures) c.in-Some.ensures
