use Rattle.std.proofs.Common.{arith}
use Rattle.ap_fixpoint.specs.Numbered.{numbers_of}
use Rattle.ap_fixpoint.specs.Rounds.{places_from}
use Rattle.ap_fixpoint.proofs.Grouping.{places-turn, grouped-done}
use Rattle.ap_fixpoint.proofs.tables.grouped.Goals as goal

pub loop-i-preserved : goal.loop-i-preserved
loop-i-preserved c x =
    places-turn (numbers_of c.loop-i.groups) (numbers_of c.add.new.self) c.args.given.now c.loop-i.i c.index-given-i.result x (places_from 0 c.args.given.now x) c.loop-i-test.true
    (c.in_ok-add.ensures x) (c.loop-i.invariant x)

pub returns : goal.returns
returns c = grouped-done (numbers_of c.loop-i.groups) c.args.given.now c.loop-i.i (omega arith) c.loop-i.invariant
