use Rattle.std.proofs.Common.{◌≡◌, List, ◌∷◌, ◌++◌, [], length, ap, ap₂, sym, ◌∙◌, subst, arith, rules}
use Rattle.ap_steps.specs.Standing.{Return}
use Rattle.ap_environments.specs.declared.environments.Point.{Point}
use Rattle.ap_environments.specs.Frames.{Rising, chain, put_entry, segments, kept_of, segments_in}
use Rattle.ap_environments.proofs.Chains.{Rising-more, Rising-push, before-pushed, last-pushed, segments-alike, segments-push}
use Rattle.ap_environments.proofs.environments.Environments.keep_entry.Goals as goal

abbrev point : goal.After-push_reserved → Point
point c = record { entry = c.args.entry; frames = c.in_ok-frames.frames }

more_points : (c : goal.After-push_reserved) → c.push_reserved.new.self.items ≡ c.self.inside.points.items ++ point c ∷ []
more_points c = search rules

pub invariant_of-self-2 : goal.invariant_of-self-2
invariant_of-self-2 c =
    let a = c.self.inside in
    let e = c.in_ok-frames.ensures in
    record {
      frames = e.are_frames;
      top = omega (arith, e.len, c.self.invariant.top);
      points = subst (λ qs. Rising 0 qs (length c.push_frame.new.frames.items)) (sym (more_points c))
          (Rising-more 0 (a.points.items ++ point c ∷ []) c.in_ok-frames.frames (length c.push_frame.new.frames.items) (Rising-push 0 a.points.items (length a.frames.items) (point c) c.self.invariant.points (omega (arith, e.number)) (omega (arith, e.number))) (omega (arith, e.number, e.len)));
    }

pub returns-clause-ok : goal.returns-clause-ok
returns-clause-ok c =
    let a = c.self.inside in
    let e = c.in_ok-frames.ensures in
    let ss = a.slots.items in
    let fs = a.frames.items in
    let us = c.push_frame.new.slots.items in
    let gs = c.push_frame.new.frames.items in
    let w : Return = record { place = 0; y = c.args.registers.now } in
    let r : List Return = w ∷ chain ss fs a.top in
    ap₂ kept_of (before-pushed ss us fs gs r e.chains a.top c.self.invariant.top ∙ ap (λ v. v.returns) c.self.view_is)
    (ap (segments us gs) (more_points c) ∙ segments-push us gs a.points.items (point c)
    ∙ ap₂ (put_entry c.args.entry) (last-pushed ss us fs gs r e.chains c.in_ok-frames.frames e.number ∙ ap (λ k. w ∷ k.returns) c.self.view_is)
    (segments-alike ss us fs gs a.points.items (length fs) c.self.invariant.points (before-pushed ss us fs gs r e.chains) ∙ ap segments_in c.self.view_is))
