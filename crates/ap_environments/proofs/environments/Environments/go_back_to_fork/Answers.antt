use Rattle.std.proofs.Common.{◌≡◌, ◌+◌, ◌-◌, ◌≤◌, ◌∷◌, ◌++◌, [], length, ap, ap₂, sym, ◌∙◌, subst, arith}
use Rattle.ap_environments.specs.Frames.{chain, forked_of, kept_of, segments_in}
use Rattle.ap_environments.proofs.Chains.{LeadUp-at, chain-at, last-kept, is-newest-fork, some-entry}
use Rattle.ap_environments.proofs.environments.Environments.go_back_to_fork.Goals as goal

pub overflow_sub-point : goal.overflow_sub-point
overflow_sub-point c =
    let a = c.self.inside in
    let s = c.in-Some.ensures.some in
    let k = last-kept a.points.items s.0 c.in-Some.point (length a.frames.items) (sym c.deref.ensures.value ∙ s.1) c.self.invariant.points in
    omega arith

pub index-requires : goal.index-requires
index-requires c =
    let a = c.self.inside in
    let s = c.in-Some.ensures.some in
    let k = last-kept a.points.items s.0 c.in-Some.point (length a.frames.items) (sym c.deref.ensures.value ∙ s.1) c.self.invariant.points in
    omega arith

pub invariant_of-self : goal.invariant_of-self
invariant_of-self c =
    let a = c.self.inside in
    let s = c.in-Some.ensures.some in
    let n = c.in-Some.point.frames - 1 in
    let k = last-kept a.points.items s.0 c.in-Some.point (length a.frames.items) (sym c.deref.ensures.value ∙ s.1) c.self.invariant.points in
    let u : c.index.result.now.up ≤ 0 + n = subst (λ f. f.up ≤ 0 + n) (sym c.index.ensures) (LeadUp-at 0 a.frames.items n c.index.result.now c.self.invariant.frames.up (omega arith)) in
    record { frames = c.self.invariant.frames; top = omega arith; points = c.self.invariant.points }

pub returns-in-Some-clause-back : goal.returns-in-Some-clause-back
returns-in-Some-clause-back c = λ f fs e.
    let a = c.self.inside in
    let s = c.in-Some.ensures.some in
    let q = c.in-Some.point in
    let n = q.frames - 1 in
    let points_are : a.points.items ≡ s.0 ++ q ∷ [] = sym c.deref.ensures.value ∙ s.1 in
    let k = last-kept a.points.items s.0 q (length a.frames.items) points_are c.self.invariant.points in
    let newest = is-newest-fork a.slots.items a.frames.items a.points.items s.0 q (segments_in c.args.self.now) f fs points_are (ap segments_in c.self.view_is) c.requires.newest e in
    let returns_are : chain a.slots.items a.frames.items c.index.result.now.up ≡ f.returns =
    ap (λ h. chain a.slots.items a.frames.items h.up) c.index.ensures
    ∙ ap (λ ws. (forked_of newest.0 ws f.moments).returns) (sym (chain-at a.slots.items a.frames.items q.frames n c.index.result.now c.self.invariant.frames.up (omega arith) (omega arith)))
    ∙ ap (λ k. k.returns) newest.1
    in
    c.trim.ensures ∙ ap₂ kept_of returns_are (ap segments_in c.self.view_is)

pub returns-in-Some-clause-none : goal.returns-in-Some-clause-none
returns-in-Some-clause-none c = λ e.
    let a = c.self.inside in
    let s = c.in-Some.ensures.some in
    absurd (some-entry a.slots.items a.frames.items a.points.items s.0 c.in-Some.point (segments_in c.args.self.now) (sym c.deref.ensures.value ∙ s.1) (ap segments_in c.self.view_is) c.requires.newest e)
