use Rattle.std.proofs.Common.{◌≡◌, ◌+◌, ◌≤◌, ℕ, List, [], ◌∷◌, ◌++◌, length, take, drop, ap, refl, sym, ◌∙◌, subst, rules, arith}
use Rattle.ap_environments.specs.declared.environments.Frame.{Frame}
use Rattle.ap_environments.specs.Frames.{Laid, AreFrames, chains}
use Rattle.ap_environments.proofs.Chains.{take-resized, pushed, frames-pushed}
use Rattle.ap_environments.proofs.frames.push_frame.Goals.{then-end-len+in_ok-resize, else-end-len}
use Rattle.ap_environments.proofs.frames.push_frame.Goals as goal

first_is : (c : goal.After-push_reserved) → c.end_of-first.result ≡ c.requires.are_frames.end
first_is c = let h = c.requires.are_frames in c.end_of-first.ensures h.end (subst (λ gs. Laid 0 gs h.end) (sym c.deref.ensures.value) h.laid)

-- what was written behind the frames
abbrev more : goal.After-push_reserved → List ℕ
more c = drop (c.end_of-first.result + length c.args.registers.now) c.if-end-len.slots.items

written : (c : goal.After-push_reserved) → c.write.new.slots.items ≡ take c.requires.are_frames.end c.args.slots.now.items ++ (c.args.registers.now ++ more c)
written c =
    let h = c.requires.are_frames in
    let ss : List ℕ = c.args.slots.now.items in
    let kept : take h.end c.if-end-len.slots.items ≡ take h.end ss =
    elim c.if-end-len.branch [
      | then-end-len+in_ok-resize w ↦ ap (λ v. take h.end v.items) w.slots-is ∙ ap (take h.end) w.in_ok-resize.ensures.items ∙ take-resized ss _ (c.end_of-first.result + length c.args.registers.now + 256) h.end h.within (let z : length ss ≤ c.end_of-first.result + length c.args.registers.now + 256 = omega (arith, w.if-end-len.true, c.len-3.ensures, c.args.slots.now.ok.0) in z)
      | else-end-len w ↦ ap (λ v. take h.end v.items) w.slots-is
    ]
    in
    c.write.ensures ∙ ap (λ n. take n c.if-end-len.slots.items ++ (c.args.registers.now ++ more c)) (first_is c) ∙ ap (λ ts. ts ++ (c.args.registers.now ++ more c)) kept

abbrev frame : goal.After-push_reserved → Frame
frame c = record { place = c.args.place; up = c.args.up; first = c.end_of-first.result; count = length c.args.registers.now }

frames_are : (c : goal.After-push_reserved) → c.push_reserved.new.self.items ≡ c.args.frames.now.items ++ frame c ∷ []
frames_are c = search rules

pub returns-clause-chains : goal.returns-clause-chains
returns-clause-chains c =
    let ss : List ℕ = c.args.slots.now.items in
    let fs : List Frame = c.args.frames.now.items in
    ap (chains c.write.new.slots.items) (frames_are c) ∙ pushed ss c.write.new.slots.items c.args.registers.now (more c) fs (frame c) c.requires.are_frames (first_is c) refl (written c)

pub returns-clause-are_frames : goal.returns-clause-are_frames
returns-clause-are_frames c =
    let ss : List ℕ = c.args.slots.now.items in
    let fs : List Frame = c.args.frames.now.items in
    subst (AreFrames c.write.new.slots.items) (sym (frames_are c))
    (frames-pushed ss c.write.new.slots.items c.args.registers.now (more c) fs (frame c) c.requires.are_frames (first_is c) refl (written c) c.requires.up)
