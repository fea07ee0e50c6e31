use Rattle.std.proofs.Common.{suc, take, drop, refl, sym, ◌∙◌, subst}
use Rattle.std.proofs.lemmas.List.{set_split}
use Rattle.std.proofs.lemmas.Option.{same_Some}
use Rattle.ap_open.specs.Sharing.{IsKeyOf}
use Rattle.ap_section.specs.Views.{view_of}
use Rattle.ap_post.specs.Posted.{Posted, posted_at}
use Rattle.ap_post.specs.Posts.{IsMore}
use Rattle.ap_stack.specs.declared.stack.Open.{Open}
use Rattle.ap_stack.specs.Levels.{IsOpen}
use Rattle.ap_stack.proofs.Offers.{offered-below}
use Rattle.ap_stack.proofs.Places.{at-place, all-at, number-below, split-at}
use Rattle.ap_stack.proofs.Returns.{posted-goes}
use Rattle.ap_stack.proofs.stack.Stack.offer_outer.Goals as goal

pub start_slot-requires-clause-place : goal.start_slot-requires-clause-place
start_slot-requires-clause-place c =
    (c.requires.ready c.index_mut.result.now (at-place c.args.self.now.outer.items c.args.k c.index_mut.result.now c.requires.there c.index_mut.ensures.value)).0

pub start_slot-requires-clause-startable : goal.start_slot-requires-clause-startable
start_slot-requires-clause-startable c =
    (c.requires.ready c.index_mut.result.now (at-place c.args.self.now.outer.items c.args.k c.index_mut.result.now c.requires.there c.index_mut.ensures.value)).1

pub offer-requires : goal.offer-requires
offer-requires c =
    number-below c.args.post.now c.args.self.now c.args.k c.index-2.result.now c.requires.good (at-place c.args.self.now.outer.items c.args.k c.index-2.result.now c.requires.there c.index-2.ensures)

pub returns-then-not-offer-clause-goes : goal.returns-then-not-offer-clause-goes
returns-then-not-offer-clause-goes c =
    posted-goes c.sharing_law.ensures c.args.post.now c.args.self.now c.offer.new.self c.requires.good c.if-not-offer.ensures.told c.offer.ensures.jobs c.offer.ensures.next

pub returns-clause-goes : goal.returns-clause-goes
returns-clause-goes c =
    let p = c.args.post.now in
    let s = c.args.self.now in
    let q = c.offer.new.self in
    let items = s.outer.items in
    let k = c.args.k in
    let e : Open = c.index_mut.result.now in
    let d : Open = record { section = c.start_slot.new.self; place = e.place; since = e.since; frame = e.frame; turn = e.turn } in
    let a : Posted = posted_at c.in-Some.job.place c.in-Some.job in
    let e-at = at-place items k e c.requires.there c.index_mut.ensures.value in
    let asked = same_Some _ _ (sym (at-place items k c.index.result.now c.requires.there c.index.ensures) ∙ e-at) in
    let told = same_Some _ _ (sym (at-place items k c.index-2.result.now c.requires.there c.index-2.ensures) ∙ e-at) in
    let key = rw c.in-Some.is at c.in_ok-job.ensures in
    let more = subst (λ (x : Open). IsMore x.frame a p q) told c.if-not-offer.ensures.told in
    let key' = subst (λ (x : Open). IsKeyOf s.sound.now c.args.i (view_of x.section) a.away.key) asked key.0 in
    let waits = all-at (IsOpen s.sound.now p) items k e c.requires.good.outer e-at in
    offered-below c.sharing_law.ensures p s q _ (take k items) e d (drop (suc k) items) c.args.i a c.requires.good
    (record {
      sound = refl;
      was = split-at items k e c.requires.there c.index_mut.ensures.value;
      is = set_split items k d c.requires.there;
      newest = refl;
      frame = refl;
      first = refl;
      tends = refl;
      place = refl;
      since = refl;
      number = refl;
    })
    refl c.offer.ensures.jobs c.offer.ensures.next more key.2 key.1 key' (c.requires.ready e e-at) c.start_slot.ensures.stands c.start_slot.ensures.at_frame (c.start_slot.ensures.ready s.sound.now waits.ready)
