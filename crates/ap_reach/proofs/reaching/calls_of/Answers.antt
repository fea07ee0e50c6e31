use Rattle.std.proofs.Common.{subst}
use Rattle.ap_reach.specs.Reached.{BodyIsAmong, CallsAmong}
use Rattle.ap_reach.proofs.Naming.{extends_on, body_more, calls_more}
use Rattle.ap_reach.proofs.reaching.calls_of.Goals as goal

pub returns : goal.returns
returns c =
    let p = c.args.program.now in
    let ks = c.find.new.calls in
    let on = extends_on c.add_body.new.calls c.add_bodies.new.calls ks c.in_ok-add_bodies.ensures.extends c.in_ok-find.ensures.extends in
    record {
      question = subst (BodyIsAmong p ks) c.question.ensures.question (body_more p c.add_body.new.calls ks c.question.result.now on c.in_ok-add_body.ensures.among);
      lifted = subst (CallsAmong p ks) c.lifted.ensures (calls_more p c.add_bodies.new.calls ks c.lifted.result.now c.in_ok-find.ensures.extends c.in_ok-add_bodies.ensures.among);
      called = c.in_ok-find.ensures.among;
    }
