use Rattle.ap_alike.proofs.Places.{body-done}
use Rattle.ap_alike.proofs.fitting.fit_body.Goals as goal

pub returns-clause-alike : goal.returns-clause-alike
returns-clause-alike c = body-done c.args.parts.now c.loop-part.part-index c.loop-part.body c.loop-part-test.false c.loop-part.invariant.alike
