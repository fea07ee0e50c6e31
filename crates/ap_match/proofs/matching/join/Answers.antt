use Rattle.std.proofs.Common.{◌≡◌, sym, ap, arith}
use Rattle.ap_match.proofs.Matches.{Becomes-asked, Becomes-same}
use Rattle.ap_match.proofs.matching.join.Goals as goal

pub returns-then-x-y-clause-becomes : goal.returns-then-x-y-clause-becomes
returns-then-x-y-clause-becomes c =
    Becomes-asked c.args.cells.now.cells c.bind_term.new.cells.cells (λ k. k c.args.y ≡ k c.args.x) (λ k. k c.args.x ≡ k c.args.y) (λ k. Unit {0}) (λ k h e. sym e) (λ k h e. sym e) c.bind_term.ensures.becomes

pub returns-else-y-x-clause-becomes : goal.returns-else-y-x-clause-becomes
returns-else-y-x-clause-becomes c =
    let e : c.args.x ≡ c.args.y = omega arith in
    Becomes-same c.args.cells.now.cells (λ k. k c.args.x ≡ k c.args.y) (λ k h. ap k e)
