use Rattle.ap_lifting.proofs.Filled.{values-one, values-same}
use Rattle.ap_lifting.proofs.lifting.add_filled.Goals as goal

pub loop-place-preserved-in-Continue-1 : goal.loop-place-preserved-in-Continue-1
loop-place-preserved-in-Continue-1 c = values-one c.args.out.now c.loop-place.out c.push.new.self c.loop-place.yielded c.in-Some.place c.in-Some-place.clause c.in-Some-place.is c.in_ok-push-in-Some-place.ensures c.loop-place.invariant

pub loop-place-preserved : goal.loop-place-preserved
loop-place-preserved c = values-same c.args.out.now c.loop-place.out c.loop-place.yielded c.in-Some.place c.in-None-place.is c.loop-place.invariant
