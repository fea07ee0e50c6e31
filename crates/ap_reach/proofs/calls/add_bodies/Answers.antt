use Rattle.std.proofs.Common.{arith}
use Rattle.ap_reach.specs.Reached.{BodyIsAmong}
use Rattle.ap_reach.proofs.Naming.{body_more, turn, done}
use Rattle.ap_reach.proofs.calls.add_bodies.Goals as goal

pub loop-clause-preserved : goal.loop-clause-preserved
loop-clause-preserved c =
    let p = c.args.program.now in
    turn (BodyIsAmong p) (body_more p) c.args.clauses.now c.loop-clause.clause-index c.clause-item.result c.args.calls.now c.loop-clause.calls c.add_body.new.calls (omega arith) c.clause-item.is c.loop-clause.invariant.0
    c.in_ok-add_body.ensures.extends c.in_ok-add_body.ensures.among c.loop-clause.invariant.1

pub returns-clause-among : goal.returns-clause-among
returns-clause-among c = let p = c.args.program.now in done (BodyIsAmong p) (body_more p) c.args.clauses.now c.loop-clause.clause-index c.loop-clause.calls (omega arith) c.loop-clause.invariant.1
