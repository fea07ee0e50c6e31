use Rattle.std.proofs.Common.{◌≡◌, suc, true, take, drop, length-set, refl, ap, sym, ◌∙◌, subst}
use Rattle.std.proofs.lemmas.List.{set_split}
use Rattle.std.proofs.lemmas.Option.{same_Some}
use Rattle.ap_frames.specs.Slots.{may_be_given_back}
use Rattle.ap_open.specs.Away.{returned}
use Rattle.ap_section.specs.Views.{view_of}
use Rattle.ap_section.specs.Slots.{IsPlaceIn, told_of}
use Rattle.ap_post.specs.Jobs.{outcome_of, IsReadyEnding}
use Rattle.ap_post.specs.Posts.{IsLess}
use Rattle.ap_stack.specs.declared.stack.Open.{Open}
use Rattle.ap_stack.specs.Levels.{IsOpen}
use Rattle.ap_stack.proofs.Places.{at-place, all-at, split-at}
use Rattle.ap_stack.proofs.Outer.{out-there, comes-back}
use Rattle.ap_stack.proofs.Returns.{posted-goes}
use Rattle.ap_stack.proofs.stack.Stack.collect_outer.Goals as goal

pub returns-in_default-clause-goes : goal.returns-in_default-clause-goes
returns-in_default-clause-goes c =
    posted-goes c.sharing_law.ensures c.args.post.now c.args.self.now c.collect.new.self c.requires.good c.in_default.ensures.told c.collect.ensures.jobs c.collect.ensures.next

pub put_ending-requires-clause-at : goal.put_ending-requires-clause-at
put_ending-requires-clause-at c =
    let items = c.args.self.now.outer.items in
    let e : Open = c.index_mut.result.now in
    let e-at = at-place items c.args.k e c.requires.there c.index_mut.ensures.value in
    (all-at (IsOpen c.args.self.now.sound.now c.args.post.now) items c.args.k e c.requires.good.outer e-at).at_frame

pub put_ending-requires-clause-place : goal.put_ending-requires-clause-place
put_ending-requires-clause-place c =
    let items = c.args.self.now.outer.items in
    let e : Open = c.index_mut.result.now in
    let e-at = at-place items c.args.k e c.requires.there c.index_mut.ensures.value in
    let waits = all-at (IsOpen c.args.self.now.sound.now c.args.post.now) items c.args.k e c.requires.good.outer e-at in
    let told = same_Some _ _ (sym (at-place items c.args.k c.index.result.now c.requires.there c.index.ensures) ∙ e-at) in
    let w = c.in-Some.ensures.told in
    let less = subst (λ (x : Open). IsLess x.frame w.0 c.args.post.now c.collect.new.self) told w.2 in
    subst (λ k. IsPlaceIn k (view_of e.section)) w.1 (out-there c.args.self.now.sound.now c.args.post.now e w.0 c.collect.new.self waits less).place

pub put_ending-requires-clause-first : goal.put_ending-requires-clause-first
put_ending-requires-clause-first c =
    let items = c.args.self.now.outer.items in
    let e : Open = c.index_mut.result.now in
    let e-at = at-place items c.args.k e c.requires.there c.index_mut.ensures.value in
    let waits = all-at (IsOpen c.args.self.now.sound.now c.args.post.now) items c.args.k e c.requires.good.outer e-at in
    let told = same_Some _ _ (sym (at-place items c.args.k c.index.result.now c.requires.there c.index.ensures) ∙ e-at) in
    let w = c.in-Some.ensures.told in
    let less = subst (λ (x : Open). IsLess x.frame w.0 c.args.post.now c.collect.new.self) told w.2 in
    subst (λ k. told_of may_be_given_back k (view_of e.section) ≡ true) w.1 (out-there c.args.self.now.sound.now c.args.post.now e w.0 c.collect.new.self waits less).first

pub returns-clause-goes : goal.returns-clause-goes
returns-clause-goes c =
    let p = c.args.post.now in
    let s = c.args.self.now in
    let q = c.collect.new.self in
    let items = s.outer.items in
    let k = c.args.k in
    let e : Open = c.index_mut.result.now in
    let d : Open = record { section = c.put_ending.new.section; place = e.place; since = e.since; frame = e.frame; turn = e.turn } in
    let e-at = at-place items k e c.requires.there c.index_mut.ensures.value in
    let waits = all-at (IsOpen s.sound.now p) items k e c.requires.good.outer e-at in
    let told = same_Some _ _ (sym (at-place items k c.index.result.now c.requires.there c.index.ensures) ∙ e-at) in
    let w = c.in-Some.ensures.told in
    let less = subst (λ (x : Open). IsLess x.frame w.0 p q) told w.2 in
    let out = out-there s.sound.now p e w.0 q waits less in
    let ending = c.in-Some.outcome.ending in
    let put = c.put_ending.ensures in
    let stands = put.stands ∙ ap (λ i. returned i (outcome_of ending) (view_of e.section)) (sym w.1) in
    comes-back c.sharing_law.ensures p s q _ (take k items) e d (drop (suc k) items) w.0 c.in-Some.outcome c.requires.good
    (record {
      sound = refl;
      was = split-at items k e c.requires.there c.index_mut.ensures.value;
      is = set_split items k d c.requires.there;
      newest = refl;
      frame = refl;
      first = refl;
      tends = refl;
      place = refl;
      since = refl;
      number = refl;
    })
    c.collect.ensures.jobs c.collect.ensures.next less w.3 stands put.at_frame (put.ready s.sound.now waits.ready (subst (λ n. IsReadyEnding n ending) out.code_is w.4)) w.5 c.merge.ensures

pub returns-clause-count : goal.returns-clause-count
returns-clause-count c = length-set c.args.self.now.outer.items c.args.k _
