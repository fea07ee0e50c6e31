use Rattle.std.proofs.Common.{◌≡◌, ◌+◌, ◌<◌, length, take, refl, ap, ap₂, sym, ◌∙◌, subst, arith}
use Rattle.ap_cells.specs.Store.{IsMark, undone}
use Rattle.ap_machine.specs.View.{Paused}
use Rattle.ap_machine.specs.Sane.{Sane}
use Rattle.ap_machine.proofs.Sanity.{Sane-kept}
use Rattle.ap_machine.proofs.state.Search.keep.Goals as goal

pub invariant_of-self-2 : goal.invariant_of-self-2
invariant_of-self-2 c =
    let i = c.self.inside in
    let v = i.cells in
    let m = c.mark-mark.result in
    let n = c.in_ok-narrow.field-0 in
    let t = c.in_ok-narrow-2.field-0 in
    let mark : IsMark v.cells v.trail n t =
    subst (λ a. IsMark v.cells v.trail a t) (sym c.in_ok-narrow.ensures) (subst (IsMark v.cells v.trail m.cells) (sym c.in_ok-narrow-2.ensures) c.mark-mark.ensures.is_mark) in
    let leads : undone v n t ≡ v.cells = ap₂ (undone v) c.in_ok-narrow.ensures c.in_ok-narrow-2.ensures ∙ c.mark-mark.ensures.leads in
    let l : c.args.arity < length c.args.self.now.machine.x = c.requires in
    let e : length i.x.items ≡ length c.args.self.now.machine.x = ap (λ (s : Paused). length s.machine.x) c.self.view_is in
    subst (λ k. Sane i.cells k i.x.items i.y.items i.roots.items) (sym c.in_ok-keep.ensures.ok)
    (Sane-kept i.cells i.environments i.x.items i.y.items i.roots.items _ c.is_store.ensures.is_trail mark leads refl
    (c.args.arity + 1) (omega arith) (ap (take (c.args.arity + 1)) c.deref.ensures.value) c.self.invariant)
