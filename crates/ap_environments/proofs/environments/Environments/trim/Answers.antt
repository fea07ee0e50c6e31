use Rattle.std.proofs.Common.{◌≡◌, ◌≤◌, length, ap, ap₂, sym, ◌∙◌, subst, arith}
use Rattle.std.proofs.lemmas.List.{length-take-le}
use Rattle.ap_environments.specs.Frames.{Rising, kept_of}
use Rattle.ap_environments.proofs.Chains.{Rising-more, same-view}
use Rattle.ap_environments.proofs.environments.Environments.trim.Goals as goal

rising : (c : goal.After-cut) → Rising 0 c.self.inside.points.items c.max.result
rising c =
    let a = c.self.inside in
    let h = subst (λ qs. Rising 0 qs c.kept_frames-kept.result) c.deref.ensures.value (c.kept_frames-kept.ensures.rising (length a.frames.items) (subst (λ qs. Rising 0 qs (length a.frames.items)) (sym c.deref.ensures.value) c.self.invariant.points)) in
    Rising-more 0 a.points.items c.kept_frames-kept.result c.max.result h (omega (arith, c.max.ensures))

few : (c : goal.After-cut) → c.max.result ≤ length c.self.inside.frames.items
few c =
    let a = c.self.inside in
    let k = c.kept_frames-kept.ensures.few (length a.frames.items) (subst (λ qs. Rising 0 qs (length a.frames.items)) (sym c.deref.ensures.value) c.self.invariant.points) in
    omega (arith, c.max.ensures, c.self.invariant.top)

pub invariant_of-self : goal.invariant_of-self
invariant_of-self c =
    let a = c.self.inside in
    let l : length c.cut.new.frames.items ≡ c.max.result = ap length c.cut.ensures.frames ∙ length-take-le c.max.result a.frames.items (few c) in
    record { frames = c.cut.ensures.are_frames a.slots.items c.self.invariant.frames; top = omega (arith, c.max.ensures); points = subst (Rising 0 a.points.items) (sym l) (rising c) }

pub returns : goal.returns
returns c =
    let a = c.self.inside in
    let v = same-view a.slots.items a.slots.items a.frames.items c.cut.new.frames.items a.points.items a.top c.max.result (c.cut.ensures.chains a.slots.items) (omega (arith, c.max.ensures)) (rising c) in
    ap₂ kept_of v.0 v.1 ∙ c.self.view_is
