use Rattle.std.proofs.Common.{◌≡◌, ◌+◌, ◌-◌, ◌≤◌, List, ◌∷◌, length, get_or, ap, refl, sym, ◌∙◌, subst, arith}
use Rattle.ap_steps.specs.Moves.{held}
use Rattle.ap_environments.specs.declared.environments.Frame.{Frame}
use Rattle.ap_environments.specs.Frames.{return_of, chain, kept_of, segments_in}
use Rattle.ap_environments.proofs.Chains.{LeadUp-at, chain-at, chain-none, frame-within}
use Rattle.ap_environments.proofs.environments.Environments.pop.Goals as goal

pub returns-then-self-eq0-clause-none : goal.returns-then-self-eq0-clause-none
returns-then-self-eq0-clause-none c =
    let a = c.self.inside in
    λ e. ap (λ v. v.returns) (sym c.self.view_is) ∙ ap (chain a.slots.items a.frames.items) c.if-self-eq0.true ∙ chain-none a.slots.items a.frames.items

pub registers_of-requires : goal.registers_of-requires
registers_of-requires c =
    let a = c.self.inside in
    let l : a.top ≤ length a.frames.items = c.self.invariant.top in
    let w = frame-within a.slots.items a.frames.items (a.top - 1) c.index.result.now c.self.invariant.frames (omega arith) in
    subst (λ f. f.first + f.count ≤ length c.deref.result.now) (sym c.index.ensures) (subst (λ ss. (get_or a.frames.items (a.top - 1) c.index.result.now).first + (get_or a.frames.items (a.top - 1) c.index.result.now).count ≤ length ss) (sym c.deref.ensures.value) w)

pub invariant_of-self : goal.invariant_of-self
invariant_of-self c =
    let a = c.self.inside in
    let l : a.top ≤ length a.frames.items = c.self.invariant.top in
    let u : c.index.result.now.up ≤ 0 + (a.top - 1) = subst (λ f. f.up ≤ 0 + (a.top - 1)) (sym c.index.ensures) (LeadUp-at 0 a.frames.items (a.top - 1) c.index.result.now c.self.invariant.frames.up (omega arith)) in
    record { frames = c.self.invariant.frames; top = omega arith; points = c.self.invariant.points }

pub returns-clause-some : goal.returns-clause-some
returns-clause-some c =
    let a = c.self.inside in
    let ss = a.slots.items in
    let fs : List Frame = a.frames.items in
    let f : Frame = c.index.result.now in
    let l : a.top ≤ length fs = c.self.invariant.top in
    let e : chain ss fs a.top ≡ return_of ss f ∷ chain ss fs f.up =
    chain-at ss fs a.top (a.top - 1) f c.self.invariant.frames.up (omega arith) (omega arith) ∙ ap (λ g. return_of ss g ∷ chain ss fs g.up) (sym c.index.ensures)
    in
    let places : c.registers_of.result.now ≡ (return_of ss f).y = c.registers_of.ensures ∙ ap (λ us. (return_of us f).y) c.deref.ensures.value in (
      return_of ss f,
      chain ss fs f.up,
      ap (λ v. v.returns) (sym c.self.view_is) ∙ e,
      refl,
      c.trim.ensures ∙ ap (λ k. kept_of (chain ss fs f.up) (segments_in k)) c.self.view_is,
      λ n fits. subst (λ ps. length ps ≤ length c.args.y.now → held c.fill_y.new.registers n ≡ held ps n) places (c.fill_y.ensures.held n) fits,
    )
