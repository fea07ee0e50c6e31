use Rattle.std.proofs.Common.{◌≡◌, true, false, refl, ap, sym, ◌∙◌, subst}
use Rattle.ap_frames.specs.Slots.{may_be_given_back}
use Rattle.ap_frames.specs.Rows.{stopped}
use Rattle.ap_tie.specs.Sections.{nothing}
use Rattle.ap_open.specs.Away.{given_back, returned}
use Rattle.ap_section.specs.Slots.{IsPlaceIn, told_of}
use Rattle.ap_section.proofs.Stood.{first-runs}
use Rattle.ap_stack.specs.Stacks.{code_in, section_in}
use Rattle.ap_stack.proofs.Counts.{no-more-stood, stays-pays}
use Rattle.ap_stack.proofs.Returns.{out-of, returned-goes, posted-goes}
use Rattle.ap_stack.proofs.stack.Stack.take_back.Goals as goal

pub returns-in_default-clause-goes : goal.returns-in_default-clause-goes
returns-in_default-clause-goes c =
    posted-goes c.sharing_law.ensures c.args.post.now c.args.self.now c.reclaim.new.self c.requires.good c.in_default.ensures.told c.in_default.ensures.jobs c.in_default.ensures.next

pub put_stopped-requires-clause-place : goal.put_stopped-requires-clause-place
put_stopped-requires-clause-place c =
    let w = c.in-Some.ensures.told in
    let out = out-of c.args.post.now c.args.self.now w.0 c.reclaim.new.self c.requires.good w.2 in
    subst (λ k. IsPlaceIn k (section_in c.args.self.now)) w.1 out.place

pub put_stopped-requires-clause-runs : goal.put_stopped-requires-clause-runs
put_stopped-requires-clause-runs c =
    let w = c.in-Some.ensures.told in
    let s = section_in c.args.self.now in
    let out = out-of c.args.post.now c.args.self.now w.0 c.reclaim.new.self c.requires.good w.2 in
    first-runs c.in-Some.i s (subst (λ k. told_of may_be_given_back k s ≡ true) w.1 out.first)

pub put_stopped-requires-clause-first : goal.put_stopped-requires-clause-first
put_stopped-requires-clause-first c = λ z.
    let w = c.in-Some.ensures.told in
    let out = out-of c.args.post.now c.args.self.now w.0 c.reclaim.new.self c.requires.good w.2 in
    subst (λ k. told_of may_be_given_back k (section_in c.args.self.now) ≡ true) w.1 out.first

pub returns-clause-goes : goal.returns-clause-goes
returns-clause-goes c =
    let w = c.in-Some.ensures.told in
    let s = c.args.self.now in
    returned-goes c.sharing_law.ensures c.args.post.now s c.reclaim.new.self _ w.0 given_back c.requires.good c.requires.tends (record { sound = refl; outer = refl; frame = refl; first = refl; tends = c.requires.tends })
    c.in-Some.ensures.jobs c.in-Some.ensures.next w.2 (λ r g n is searched. tt) (c.put_stopped.ensures.stands ∙ ap (λ k. returned k given_back (section_in s)) (sym w.1))
    c.put_stopped.ensures.at_frame (c.put_stopped.ensures.ready (code_in s) c.requires.good.ready)
    (stays-pays c.args.post.now s _ refl refl (no-more-stood c.in-Some.i (stopped (Unit {0}) false 0) nothing (section_in s) _ refl c.put_stopped.ensures.stands))
