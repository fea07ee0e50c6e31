use Rattle.ap_patterns.proofs.Arguments.{sets_counted}
use Rattle.ap_patterns.proofs.places.argument_sets.Goals as goal

pub returns-clause-count : goal.returns-clause-count
returns-clause-count c = sets_counted c.loop-t.sets.items c.args.args.now c.loop-t.t-index c.loop-t-test.false c.loop-t.invariant.whole
