use Rattle.std.proofs.Common.{◌≡◌, ◌+◌, ◌-◌, ◌≤◌, List, ◌∷◌, ◌++◌, [], length, get_or, ap, ap₂, sym, ◌∙◌, subst, arith}
use Rattle.ap_steps.specs.Moves.{held}
use Rattle.ap_environments.specs.declared.environments.Choice.{Choice}
use Rattle.ap_environments.specs.Kept.{Moment}
use Rattle.ap_environments.specs.Frames.{return_of, chain, moment_of, kept_of, segments_in}
use Rattle.ap_environments.proofs.Chains.{LeadUp-at, chain-at, frame-within, last-kept, is-newest}
use Rattle.ap_environments.proofs.environments.Environments.go_back.Goals as goal

pub overflow_sub-point : goal.overflow_sub-point
overflow_sub-point c =
    let a = c.self.inside in
    let s = c.in-Some.ensures.some in
    let k = last-kept a.points.items s.0 c.in-Some.point (length a.frames.items) (sym c.deref.ensures.value ∙ s.1) c.self.invariant.points in
    omega arith

pub index-requires : goal.index-requires
index-requires c =
    let a = c.self.inside in
    let s = c.in-Some.ensures.some in
    let k = last-kept a.points.items s.0 c.in-Some.point (length a.frames.items) (sym c.deref.ensures.value ∙ s.1) c.self.invariant.points in
    omega arith

pub registers_of-requires : goal.registers_of-requires
registers_of-requires c =
    let a = c.self.inside in
    let s = c.in-Some.ensures.some in
    let n = c.in-Some.point.frames - 1 in
    let k = last-kept a.points.items s.0 c.in-Some.point (length a.frames.items) (sym c.deref.ensures.value ∙ s.1) c.self.invariant.points in
    let w = frame-within a.slots.items a.frames.items n c.index.result.now c.self.invariant.frames (omega arith) in
    subst (λ f. f.first + f.count ≤ length c.deref-in-Some.result.now) (sym c.index.ensures) (subst (λ ss. (get_or a.frames.items n c.index.result.now).first + (get_or a.frames.items n c.index.result.now).count ≤ length ss) (sym c.deref-in-Some.ensures.value) w)

pub invariant_of-self : goal.invariant_of-self
invariant_of-self c =
    let a = c.self.inside in
    let s = c.in-Some.ensures.some in
    let n = c.in-Some.point.frames - 1 in
    let k = last-kept a.points.items s.0 c.in-Some.point (length a.frames.items) (sym c.deref.ensures.value ∙ s.1) c.self.invariant.points in
    let u : c.index.result.now.up ≤ 0 + n = subst (λ f. f.up ≤ 0 + n) (sym c.index.ensures) (LeadUp-at 0 a.frames.items n c.index.result.now c.self.invariant.frames.up (omega arith)) in
    record { frames = c.self.invariant.frames; top = omega arith; points = c.self.invariant.points }

-- the newest moment, by the frame that was read
newest_is : (c : goal.After-trim) (m : Moment) (ms : List Moment) → c.args.self.now.moments ≡ m ∷ ms
    → (k : Choice) × (record { choice = k; returns = chain c.self.inside.slots.items c.self.inside.frames.items c.index.result.now.up; arguments = (return_of c.self.inside.slots.items c.index.result.now).y } ≡ m)
newest_is c m ms e =
    let a = c.self.inside in
    let s = c.in-Some.ensures.some in
    let n = c.in-Some.point.frames - 1 in
    let points_are : a.points.items ≡ s.0 ++ c.in-Some.point ∷ [] = sym c.deref.ensures.value ∙ s.1 in
    let k = last-kept a.points.items s.0 c.in-Some.point (length a.frames.items) points_are c.self.invariant.points in
    let newest = is-newest a.slots.items a.frames.items a.points.items s.0 c.in-Some.point (segments_in c.args.self.now) m ms points_are (ap segments_in c.self.view_is) e in (
      newest.0,
      ap (λ f. record { choice = newest.0; returns = chain a.slots.items a.frames.items f.up; arguments = (return_of a.slots.items f).y }) c.index.ensures
          ∙ ap (moment_of newest.0) (sym (chain-at a.slots.items a.frames.items c.in-Some.point.frames n c.index.result.now c.self.invariant.frames.up (omega arith) (omega arith)))
          ∙ newest.2,
    )

pub returns-in-Some-clause-back : goal.returns-in-Some-clause-back
returns-in-Some-clause-back c = λ m ms e. c.trim.ensures ∙ ap₂ kept_of (ap (λ n. n.returns) (newest_is c m ms e).1) (ap segments_in c.self.view_is)

pub returns-in-Some-clause-arguments : goal.returns-in-Some-clause-arguments
returns-in-Some-clause-arguments c = λ m ms e fits n.
    let a = c.self.inside in
    let places : c.registers_of.result.now ≡ m.arguments =
    c.registers_of.ensures ∙ ap (λ us. (return_of us c.index.result.now).y) c.deref-in-Some.ensures.value ∙ ap (λ k. k.arguments) (newest_is c m ms e).1
    in
    subst (λ ps. length ps ≤ length c.args.x.now → held c.fill_x.new.registers n ≡ held ps n) places (c.fill_x.ensures.held n) fits
