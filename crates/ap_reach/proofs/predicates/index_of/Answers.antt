use Rattle.std.proofs.Common.{arith}
use Rattle.ap_reach.specs.Index.{clauses_at}
use Rattle.ap_reach.proofs.Naming.{index_turn, index_end}
use Rattle.ap_reach.proofs.predicates.index_of.Goals as goal

pub loop-clause-preserved : goal.loop-clause-preserved
loop-clause-preserved c k near =
    index_turn k c.args.clauses.now c.loop-clause.clause-index c.clause-item.result (clauses_at c.loop-clause.index k) (clauses_at c.add_by_head.new.index k) (omega arith) c.clause-item.is (c.in_ok-add_by_head.ensures k near) (c.loop-clause.invariant k near)

pub returns : goal.returns
returns c k near = index_end k c.args.clauses.now c.loop-clause.clause-index (clauses_at c.loop-clause.index k) (omega arith) (c.loop-clause.invariant k near)
