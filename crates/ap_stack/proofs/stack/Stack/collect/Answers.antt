use Rattle.std.proofs.Common.{◌≡◌, true, refl, ap, sym, ◌∙◌, subst}
use Rattle.ap_frames.specs.Slots.{may_be_given_back}
use Rattle.ap_open.specs.Away.{returned}
use Rattle.ap_section.specs.Slots.{IsPlaceIn, told_of}
use Rattle.ap_post.specs.Jobs.{outcome_of, IsReadyEnding}
use Rattle.ap_stack.specs.Stacks.{code_in, section_in}
use Rattle.ap_stack.proofs.Returns.{out-of, returned-goes, returned-pays, posted-goes}
use Rattle.ap_stack.proofs.stack.Stack.collect.Goals as goal

pub returns-in_default-clause-goes : goal.returns-in_default-clause-goes
returns-in_default-clause-goes c =
    posted-goes c.sharing_law.ensures c.args.post.now c.args.self.now c.collect.new.self c.requires.good c.in_default.ensures.told c.in_default.ensures.jobs c.in_default.ensures.next

pub put_ending-requires-clause-place : goal.put_ending-requires-clause-place
put_ending-requires-clause-place c =
    let w = c.in-Some.ensures.told in
    let out = out-of c.args.post.now c.args.self.now w.0 c.collect.new.self c.requires.good w.2 in
    subst (λ k. IsPlaceIn k (section_in c.args.self.now)) w.1 out.place

pub put_ending-requires-clause-first : goal.put_ending-requires-clause-first
put_ending-requires-clause-first c =
    let w = c.in-Some.ensures.told in
    let out = out-of c.args.post.now c.args.self.now w.0 c.collect.new.self c.requires.good w.2 in
    subst (λ k. told_of may_be_given_back k (section_in c.args.self.now) ≡ true) w.1 out.first

pub returns-clause-goes : goal.returns-clause-goes
returns-clause-goes c =
    let w = c.in-Some.ensures.told in
    let s = c.args.self.now in
    let e = c.in-Some.outcome.ending in
    let out = out-of c.args.post.now s w.0 c.collect.new.self c.requires.good w.2 in
    returned-goes c.sharing_law.ensures c.args.post.now s c.collect.new.self _ w.0 (outcome_of e) c.requires.good c.requires.tends (record { sound = refl; outer = refl; frame = refl; first = refl; tends = c.requires.tends })
    c.in-Some.ensures.jobs c.in-Some.ensures.next w.2 w.3 (c.put_ending.ensures.stands ∙ ap (λ k. returned k (outcome_of e) (section_in s)) (sym w.1))
    c.put_ending.ensures.at_frame (c.put_ending.ensures.ready (code_in s) c.requires.good.ready (subst (λ k. IsReadyEnding k e) out.code_is w.4))
    (returned-pays c.args.post.now s c.collect.new.self _ w.0 c.in-Some.outcome c.requires.good refl w.2 w.5 (c.put_ending.ensures.stands ∙ ap (λ k. returned k (outcome_of e) (section_in s)) (sym w.1)) c.merge.ensures)
