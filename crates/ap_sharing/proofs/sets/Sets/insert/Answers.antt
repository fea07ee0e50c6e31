use Rattle.std.proofs.Common.{ap, sym, ◌∙◌, subst}
use Rattle.ap_sharing.specs.Sets.{IsAscending, insert_set}
use Rattle.ap_sharing.proofs.Lists.{ascending-insert}
use Rattle.ap_sharing.proofs.Made.{found, insert_set-listed, insert_same}
use Rattle.ap_sharing.proofs.sets.Sets.insert.Goals as goal

pub returns-in-Ok : goal.returns-in-Ok
returns-in-Ok c =
    let same = c.deref.ensures.value ∙ c.self.view_is in
    let a = subst IsAscending (sym c.deref.ensures.value) c.self.invariant in
    sym (ap (λ r. insert_set r c.args.s) (sym same) ∙ insert_set-listed c.args.s c.deref.result.now a (found c.args.s c.deref.result.now c.in-Ok.field-0 c.in-Ok.ensures.bound c.in-Ok.ensures.ok) ∙ same)

pub invariant_of-self-in-Err : goal.invariant_of-self-in-Err
invariant_of-self-in-Err c =
    let a = subst IsAscending (sym c.deref.ensures.value) c.self.invariant in
    let e = insert_same c.args.s c.in-Err.place c.self.inside.held.items c.deref.result.now c.insert.new.self.items c.deref.ensures.value a c.in-Err.ensures.position c.in_ok-insert-in-Err.ensures.items in
    subst IsAscending (sym e) (ascending-insert c.self.inside.held.items c.args.s c.self.invariant)

pub returns-in_ok-insert-in-Err : goal.returns-in_ok-insert-in-Err
returns-in_ok-insert-in-Err c =
    let a = subst IsAscending (sym c.deref.ensures.value) c.self.invariant in
    insert_same c.args.s c.in-Err.place c.self.inside.held.items c.deref.result.now c.insert.new.self.items c.deref.ensures.value a c.in-Err.ensures.position c.in_ok-insert-in-Err.ensures.items
    ∙ ap (λ r. insert_set r c.args.s) c.self.view_is
