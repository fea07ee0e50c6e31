use Rattle.std.proofs.Common.{◌≡◌, ℕ, sym, subst}
use Rattle.ap_term.specs.Tree.{Tree}
use Rattle.ap_match.specs.Fits.{Fits, Becomes}
use Rattle.ap_match.proofs.Maps.{same-fits, same-longer}
use Rattle.ap_match.proofs.matching.push_value.Goals as goal

pub returns-clause-becomes : goal.returns-clause-becomes
returns-clause-becomes c =
    subst (λ n. Becomes c.args.cells.now.cells c.push_same.new.self.cells (λ k. Unit {0}) (λ k. k n ≡ k c.args.to)) (sym c.push_same.ensures.place)
    (same-fits c.args.cells.now.cells c.push_same.new.self.cells c.args.to c.requires.inside c.push_same.ensures.len c.push_same.ensures.trees)

pub returns-clause-fits : goal.returns-clause-fits
returns-clause-fits c =
    subst (λ n. (k : ℕ → Tree) → Fits c.args.cells.now.cells k → k n ≡ k c.args.to → Fits c.push_same.new.self.cells k) (sym c.push_same.ensures.place)
    (same-longer c.args.cells.now.cells c.push_same.new.self.cells c.args.to c.requires.inside c.push_same.ensures.len c.push_same.ensures.trees)
