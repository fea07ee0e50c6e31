use Rattle.std.proofs.Common.{rules, ◌≡◌, length, ap₂, sym, ◌∙◌, subst}
use Rattle.ap_cells.specs.Store.{IsMark, undone}
use Rattle.ap_control.proofs.Marks.{mark-whole}
use Rattle.ap_machine.proofs.Parted.{ok-then}
use Rattle.ap_machine.proofs.group.keep_goals.Goals as goal

pub returns-clause-ok : goal.returns-clause-ok
returns-clause-ok c =
    let v = c.args.cells.now in
    let m = c.mark-mark.result in
    let n = c.in_ok-narrow.field-0 in
    let t = c.in_ok-narrow-2.field-0 in
    let mark : IsMark v.cells v.trail n t =
    subst (λ a. IsMark v.cells v.trail a t) (sym c.in_ok-narrow.ensures) (subst (IsMark v.cells v.trail m.cells) (sym c.in_ok-narrow-2.ensures) c.mark-mark.ensures.is_mark) in
    let leads : undone v n t ≡ v.cells = ap₂ (undone v) c.in_ok-narrow.ensures c.in_ok-narrow-2.ensures ∙ c.mark-mark.ensures.leads in
    let whole = mark-whole v n t c.is_store.ensures.is_trail mark leads in
    let count : c.in-Ok.count ≡ length c.args.goals.now = search rules in
    ok-then c.put_fork.result (λ h. record {
      fork = record { cells = n; trail = t; goals = c.in-Ok.count };
      behind = record { place = c.in_ok-place.place; y = c.used.result.now };
      cells = whole.0;
      bindings = whole.1;
      mark = mark;
      leads = leads;
      count = count;
      place = c.in_ok-place.ensures;
      held_y = c.used.ensures.held;
      few = c.used.ensures.len;
      kept = h;
    }) c.put_fork.ensures.ok
