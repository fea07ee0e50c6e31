use Rattle.std.proofs.Common.{arith}
use Rattle.ap_patterns.specs.Given.{patterns}
use Rattle.ap_fixpoint.specs.Rounds.{steps, changed}
use Rattle.ap_fixpoint.proofs.Stepping.{slots-turn, table-turn, table-done}
use Rattle.ap_fixpoint.proofs.tables.unite_all.Goals as goal

pub loop-g-preserved : goal.loop-g-preserved
loop-g-preserved c = record {
  slots = slots-turn c.args.given.now c.loop-g.g-index c.g-item.result (patterns c.loop-g.table) (patterns c.unite.new.table) c.loop-g.changed.items c.unite.new.changed.items
      (changed c.args.given.now c.args.given.now (patterns c.args.table.now)) (omega arith) c.g-item.is c.in_ok-unite.ensures.changed c.in_ok-unite.ensures.table c.loop-g.invariant.slots;
  table = table-turn c.args.given.now c.loop-g.g-index c.g-item.result (patterns c.loop-g.table) (patterns c.unite.new.table)
      (steps c.args.given.now c.args.given.now (patterns c.args.table.now)) (omega arith) c.g-item.is c.in_ok-unite.ensures.table c.loop-g.invariant.table;
}

pub returns-clause-table : goal.returns-clause-table
returns-clause-table c =
    table-done c.args.given.now c.loop-g.g-index (patterns c.loop-g.table) (steps c.args.given.now c.args.given.now (patterns c.args.table.now)) c.loop-g-test.false c.loop-g.invariant.table
