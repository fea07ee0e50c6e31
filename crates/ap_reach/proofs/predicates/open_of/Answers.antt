use Rattle.std.proofs.Common.{arith}
use Rattle.std.specs.List.{list_any}
use Rattle.ap_reach.specs.Reached.{is_place}
use Rattle.ap_reach.proofs.Naming.{open_turn, open_end}
use Rattle.ap_reach.proofs.predicates.open_of.Goals as goal

pub loop-clause-preserved : goal.loop-clause-preserved
loop-clause-preserved c k =
    open_turn k c.args.clauses.now c.loop-clause.clause-index c.clause-item.result (list_any (is_place k) c.loop-clause.found.keys) (list_any (is_place k) c.add_open.new.found.keys) (omega arith) c.clause-item.is (c.in_ok-add_open.ensures k) (c.loop-clause.invariant k)

pub returns : goal.returns
returns c k = open_end k c.args.clauses.now c.loop-clause.clause-index (list_any (is_place k) c.loop-clause.found.keys) (omega arith) (c.loop-clause.invariant k)
