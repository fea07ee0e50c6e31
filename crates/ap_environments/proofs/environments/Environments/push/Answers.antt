use Rattle.std.proofs.Common.{List, ◌∷◌, length, ap, ap₂, ◌∙◌, arith}
use Rattle.ap_steps.specs.Standing.{Return}
use Rattle.ap_environments.specs.Frames.{chain, kept_of, segments_in}
use Rattle.ap_environments.proofs.Chains.{Rising-more, before-pushed, last-pushed, segments-alike}
use Rattle.ap_environments.proofs.environments.Environments.push.Goals as goal

pub invariant_of-self-2 : goal.invariant_of-self-2
invariant_of-self-2 c =
    let a = c.self.inside in
    let e = c.in_ok-self-inside.ensures in
    record { frames = e.are_frames; top = omega (arith, e.number, e.len); points = Rising-more 0 a.points.items (length a.frames.items) (length c.push_frame.new.frames.items) c.self.invariant.points (omega (arith, e.len)) }

pub returns-clause-ok : goal.returns-clause-ok
returns-clause-ok c =
    let a = c.self.inside in
    let e = c.in_ok-self-inside.ensures in
    let ss = a.slots.items in
    let fs = a.frames.items in
    let us = c.push_frame.new.slots.items in
    let gs = c.push_frame.new.frames.items in
    let w : Return = record { place = c.args.place; y = c.args.y.now } in
    let r : List Return = w ∷ chain ss fs a.top in
    ap₂ kept_of
    (last-pushed ss us fs gs r e.chains c.in_ok-self-inside.field-0 e.number ∙ ap (λ v. w ∷ v.returns) c.self.view_is)
    (segments-alike ss us fs gs a.points.items (length fs) c.self.invariant.points (before-pushed ss us fs gs r e.chains) ∙ ap segments_in c.self.view_is)
