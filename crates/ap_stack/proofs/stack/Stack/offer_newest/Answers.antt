use Rattle.std.proofs.Common.{refl}
use Rattle.ap_stack.proofs.Offers.{offered-goes}
use Rattle.ap_stack.proofs.Returns.{posted-goes}
use Rattle.ap_stack.proofs.stack.Stack.offer_newest.Goals as goal

pub returns-then-not-offer-clause-goes : goal.returns-then-not-offer-clause-goes
returns-then-not-offer-clause-goes c =
    posted-goes c.sharing_law.ensures c.args.post.now c.args.self.now c.offer.new.self c.requires.good c.if-not-offer.ensures.told c.offer.ensures.jobs c.offer.ensures.next

pub returns-clause-goes : goal.returns-clause-goes
returns-clause-goes c =
    let s = c.args.self.now in
    let key = rw c.in-Some.is at c.in_ok-job.ensures in
    offered-goes c.sharing_law.ensures c.args.post.now s c.offer.new.self _ c.args.i _ c.requires.good c.requires.tends (record { sound = refl; outer = refl; frame = refl; first = refl; tends = c.requires.tends })
    c.offer.ensures.jobs c.offer.ensures.next c.if-not-offer.ensures.told key.2 key.1 key.0 c.requires.ready c.start_slot.ensures.stands c.start_slot.ensures.at_frame (c.start_slot.ensures.ready s.sound.now c.requires.good.ready) refl
