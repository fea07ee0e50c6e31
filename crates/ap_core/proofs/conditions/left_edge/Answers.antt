use Rattle.std.proofs.Common.{arith}
use Rattle.ap_core.specs.TaskView.{slots_view}
use Rattle.ap_core.specs.Conditions.{left_edge}
use Rattle.ap_core.proofs.Edges.{edge_above, edge_room, edge_stays, edge_goes}
use Rattle.ap_core.proofs.conditions.left_edge.Goals as goal

pub returns-in_default : goal.returns-in_default
returns-in_default c =
    edge_above c.args.slots.now c.loop-x.x-index c.x-item.result c.args.rest c.loop-x.total (left_edge c.args.rest 0 (slots_view c.args.slots.now)) c.prefix_cost-cost.result.0 c.prefix_cost-cost.result.1
    c.loop-x-test.true c.x-item.is c.loop-x.invariant.within c.prefix_cost-cost.ensures c.loop-x.invariant.whole (λ k e. absurd (c.in_default.not-Some k e))

pub returns-then-cost-rest : goal.returns-then-cost-rest
returns-then-cost-rest c =
    edge_room c.args.slots.now c.loop-x.x-index c.x-item.result c.args.rest c.loop-x.total c.in-Some.cost (left_edge c.args.rest 0 (slots_view c.args.slots.now)) c.prefix_cost-cost.result
    c.loop-x-test.true c.x-item.is c.loop-x.invariant.within c.prefix_cost-cost.ensures c.loop-x.invariant.whole c.in-Some.is c.if-cost-rest.true

pub returns-then-not-goes_on : goal.returns-then-not-goes_on
returns-then-not-goes_on c = (
  edge_stays c.args.slots.now c.loop-x.x-index c.x-item.result c.args.rest c.loop-x.total c.in-Some.cost (left_edge c.args.rest 0 (slots_view c.args.slots.now)) c.prefix_cost-cost.result
      c.loop-x-test.true c.x-item.is c.loop-x.invariant.within c.prefix_cost-cost.ensures c.loop-x.invariant.whole c.in-Some.is c.if-not-goes_on.true,
  omega (arith, c.if-cost-rest.false, c.loop-x.invariant.within),
)

pub loop-x-preserved : goal.loop-x-preserved
loop-x-preserved c = record {
  whole = edge_goes c.args.slots.now c.loop-x.x-index c.x-item.result c.args.rest c.loop-x.total c.in-Some.cost (left_edge c.args.rest 0 (slots_view c.args.slots.now)) c.prefix_cost-cost.result
      c.loop-x-test.true c.x-item.is c.loop-x.invariant.within c.prefix_cost-cost.ensures c.loop-x.invariant.whole c.in-Some.is c.if-not-goes_on.false;
  within = omega (arith, c.if-cost-rest.false, c.loop-x.invariant.within);
}
