use Rattle.std.proofs.Common.{◌≡◌, ◌∷◌, ◌++◌, [], Bor, arith, rules}
use Rattle.ap_term.specs.Goals.{Clause}
use Rattle.ap_reach.proofs.Naming.{taken_turn, taken_done}
use Rattle.ap_reach.proofs.calls.add_copies.Goals as goal

pub loop-clause-preserved : goal.loop-clause-preserved
loop-clause-preserved c =
    let pushed : c.push.new.self ≡ c.loop-clause.part ++ c.clause-item.result.now ∷ [] = search rules in
    taken_turn (λ (r : Bor Clause). r.now) c.args.clauses.now c.loop-clause.clause-index c.clause-item.result c.args.part.now c.loop-clause.part c.push.new.self (omega arith) c.clause-item.is c.loop-clause.invariant pushed

pub returns : goal.returns
returns c = taken_done (λ (r : Bor Clause). r.now) c.args.clauses.now c.loop-clause.clause-index c.args.part.now c.loop-clause.part (omega arith) c.loop-clause.invariant
