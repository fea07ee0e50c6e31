use Rattle.std.proofs.Common.{◌≡◌, ◌+◌, ◌-◌, ◌≤◌, ◌∷◌, length, get_or, refl, ap, sym, ◌∙◌, subst, arith}
use Rattle.ap_steps.specs.Standing.{Return}
use Rattle.ap_environments.specs.Frames.{return_of, chain, segments_in}
use Rattle.ap_environments.proofs.Chains.{LeadUp-at, chain-at, chain-none, frame-within, last-kept}
use Rattle.ap_environments.proofs.Above.{fork-above, first-dropped, none-dropped}
use Rattle.ap_environments.proofs.environments.Environments.goal.Goals as goal

pub overflow_sub-point : goal.overflow_sub-point
overflow_sub-point c =
    let a = c.self.inside in
    let s = c.in-Some-last_point.ensures.some in
    (last-kept a.points.items s.0 c.in-Some-last_point.point (length a.frames.items) (sym c.deref.ensures.value ∙ s.1) c.self.invariant.points).0

pub index-requires : goal.index-requires
index-requires c =
    let a = c.self.inside in
    let s = c.in-Some-last_point.ensures.some in
    let k = last-kept a.points.items s.0 c.in-Some-last_point.point (length a.frames.items) (sym c.deref.ensures.value ∙ s.1) c.self.invariant.points in
    omega arith

pub above-top-requires-clause-top : goal.above-top-requires-clause-top
above-top-requires-clause-top c =
    let a = c.self.inside in
    let s = c.in-Some-last_point.ensures.some in
    let k = last-kept a.points.items s.0 c.in-Some-last_point.point (length a.frames.items) (sym c.deref.ensures.value ∙ s.1) c.self.invariant.points in
    let n = c.in-Some-last_point.point.frames - 1 in
    let u : c.index.result.now.up ≤ 0 + n = subst (λ f. f.up ≤ 0 + n) (sym c.index.ensures) (LeadUp-at 0 a.frames.items n c.index.result.now c.self.invariant.frames.up (omega arith)) in
    omega (arith, ap length c.deref-2.ensures.value)

pub returns-then-top-eq0-clause-none : goal.returns-then-top-eq0-clause-none
returns-then-top-eq0-clause-none c = λ none f fs e l.
    let a = c.self.inside in
    let s = c.in-Some-last_point.ensures.some in
    none-dropped f.returns c.args.i
    (sym (ap (chain a.slots.items a.frames.items) c.if-top-eq0.true ∙ chain-none a.slots.items a.frames.items)
    ∙ fork-above a.slots.items a.frames.items c.deref-2.result.now a.points.items s.0 c.in-Some-last_point.point (segments_in c.args.self.now) f fs c.index.result.now c.above-top.result c.args.i
    c.self.invariant.frames c.self.invariant.points (sym c.deref.ensures.value ∙ s.1) (ap segments_in c.self.view_is) c.requires.newest e c.index.ensures c.deref-2.ensures.value c.above-top.ensures.chain)

pub registers_of-requires : goal.registers_of-requires
registers_of-requires c =
    let a = c.self.inside in
    let n = c.above-top.result - 1 in
    let l = c.above-top.ensures.top in
    let same = ap length c.deref-2.ensures.value in
    let w = frame-within a.slots.items a.frames.items n c.index-2.result.now c.self.invariant.frames (omega (arith, c.if-top-eq0.false)) in
    subst (λ f. f.first + f.count ≤ length c.deref-3.result.now) (sym c.index-2.ensures)
    (subst (λ ss. (get_or a.frames.items n c.index-2.result.now).first + (get_or a.frames.items n c.index-2.result.now).count ≤ length ss) (sym c.deref-3.ensures.value) w)

pub returns-clause-some : goal.returns-clause-some
returns-clause-some c =
    let a = c.self.inside in
    let h = c.in-Some.ensures.some in
    let s = c.in-Some-last_point.ensures.some in
    let n = c.above-top.result - 1 in
    let l = c.above-top.ensures.top in
    let same = ap length c.deref-2.ensures.value in
    let w : Return = return_of a.slots.items c.index-2.result.now in
    let e : chain a.slots.items a.frames.items c.above-top.result ≡ w ∷ chain a.slots.items a.frames.items c.index-2.result.now.up =
    chain-at a.slots.items a.frames.items c.above-top.result n c.index-2.result.now c.self.invariant.frames.up (omega (arith, c.if-top-eq0.false)) (omega (arith, c.if-top-eq0.false))
    ∙ ap (λ g. return_of a.slots.items g ∷ chain a.slots.items a.frames.items g.up) (sym c.index-2.ensures)
    in
    let rest =
    fork-above a.slots.items a.frames.items c.deref-2.result.now a.points.items s.0 c.in-Some-last_point.point (segments_in c.args.self.now) h.1 h.2 c.index.result.now c.above-top.result c.args.i
    c.self.invariant.frames c.self.invariant.points (sym c.deref.ensures.value ∙ s.1) (ap segments_in c.self.view_is) c.requires.newest h.3 c.index.ensures c.deref-2.ensures.value c.above-top.ensures.chain
    in (
      h.1,
      h.2,
      w,
      h.3,
      omega (arith, c.if-i-fork.false, ap (λ f. f.goals) h.4),
      first-dropped h.1.returns (chain a.slots.items a.frames.items c.index-2.result.now.up) w c.args.i (sym e ∙ rest),
      refl,
      sym (c.registers_of.ensures ∙ ap (λ us. (return_of us c.index-2.result.now).y) c.deref-3.ensures.value),
    )
