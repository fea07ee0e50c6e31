use Rattle.std.proofs.Common.{◌≡◌, ℕ, List, ◌++◌, length, take, drop, Some, None, refl, ap, sym, ◌∙◌, subst}
use Rattle.ap_group.specs.declared.gathering.Gathered.TheVariants.{Pushed, Plain}
use Rattle.ap_machine.specs.declared.state.Now.TheVariants.{Failed}
use Rattle.ap_machine.specs.View.{Paused, paused_of, IsFor}
use Rattle.ap_machine.specs.Forking.{HasForked}
use Rattle.ap_machine.proofs.Parted.{Sane-forked, has-forked, for-forked, Sane-plain, as-before, gone-plain, for-plain, Sane-cut, gone-cut, for-cut, as-forks}
use Rattle.ap_machine.proofs.Ran.{written}
use Rattle.ap_machine.proofs.state.Search.fork.Goals as goal

pub invariant_of-self-in-Ok-Some-Pushed : goal.invariant_of-self-in-Ok-Some-Pushed
invariant_of-self-in-Ok-Some-Pushed c =
    let a = c.self.inside in
    let code = c.args.sound.now in
    let at = c.in-Inside.at in
    let r = c.fork_or_undo.new in
    let f = as-forks code at a.cells r.cells a.x.items c.deref_mut.result.now a.y.items c.deref_mut-2.result.now r.x r.y (Some (Pushed c.in-Ok-Some-Pushed.field-0-0-0)) c.in-Ok-Some-Pushed.field-0 r.goals a.environments r.environments
    c.deref_mut.ensures.value c.deref_mut-2.ensures.value (c.in-Ok-Some-Pushed.field-0-is ∙ ap Some c.in-Ok-Some-Pushed.field-0-0-is) c.in-Ok-Some-Pushed.ensures.forks in
    Sane-forked code a.cells r.cells a.environments r.environments a.x.items a.y.items r.x r.y c.fill.new.self.items c.fill-in-Ok-Some-Pushed.new.self.items a.roots.items at c.in-Ok-Some-Pushed.field-0-0-0 a.x.len a.y.len r.goals
    c.self.invariant c.fork_or_undo.ensures.keeps c.fork_or_undo.ensures.longer f.0 f.1 (c.fill.ensures.items (λ z f. cc)) (c.fill-in-Ok-Some-Pushed.ensures.items (λ z f. cc))
    (sym c.deref_mut.ensures.len ∙ ap length c.deref_mut.ensures.value) (sym c.deref_mut-2.ensures.len ∙ ap length c.deref_mut-2.ensures.value) (c.fork_or_undo.ensures.y_len ∙ ap length c.deref_mut-2.ensures.value)

pub returns-in-Ok-Some-Pushed-clause-forked : goal.returns-in-Ok-Some-Pushed-clause-forked
returns-in-Ok-Some-Pushed-clause-forked c = λ yes.
    let a = c.self.inside in
    let code = c.args.sound.now in
    let at = c.in-Inside.at in
    let r = c.fork_or_undo.new in
    let f = as-forks code at a.cells r.cells a.x.items c.deref_mut.result.now a.y.items c.deref_mut-2.result.now r.x r.y (Some (Pushed c.in-Ok-Some-Pushed.field-0-0-0)) c.in-Ok-Some-Pushed.field-0 r.goals a.environments r.environments
    c.deref_mut.ensures.value c.deref_mut-2.ensures.value (c.in-Ok-Some-Pushed.field-0-is ∙ ap Some c.in-Ok-Some-Pushed.field-0-0-is) c.in-Ok-Some-Pushed.ensures.forks in
    subst (λ s. HasForked code s (paused_of r.cells r.environments c.fill.new.self.items c.fill-in-Ok-Some-Pushed.new.self.items a.roots.items Failed a.spent a.budget)) c.self.view_is
    (has-forked code a.cells r.cells a.environments r.environments a.x.items a.y.items r.x r.y c.fill.new.self.items c.fill-in-Ok-Some-Pushed.new.self.items a.roots.items at c.in-Ok-Some-Pushed.field-0-0-0 a.x.len a.y.len r.goals
    c.self.invariant c.fork_or_undo.ensures.keeps c.fork_or_undo.ensures.longer f.0 f.1 (c.fill.ensures.items (λ z f. cc)) (c.fill-in-Ok-Some-Pushed.ensures.items (λ z f. cc))
    (sym c.deref_mut.ensures.len ∙ ap length c.deref_mut.ensures.value) (sym c.deref_mut-2.ensures.len ∙ ap length c.deref_mut-2.ensures.value) (c.fork_or_undo.ensures.y_len ∙ ap length c.deref_mut-2.ensures.value) a.next a.spent a.budget (ap (λ (s : Paused). s.machine.now) c.self.view_is ∙ c.in-Inside.ensures))

pub returns-in-Ok-Some-Pushed-clause-is_for : goal.returns-in-Ok-Some-Pushed-clause-is_for
returns-in-Ok-Some-Pushed-clause-is_for c =
    let a = c.self.inside in
    let code = c.args.sound.now in
    let at = c.in-Inside.at in
    let r = c.fork_or_undo.new in
    let f = as-forks code at a.cells r.cells a.x.items c.deref_mut.result.now a.y.items c.deref_mut-2.result.now r.x r.y (Some (Pushed c.in-Ok-Some-Pushed.field-0-0-0)) c.in-Ok-Some-Pushed.field-0 r.goals a.environments r.environments
    c.deref_mut.ensures.value c.deref_mut-2.ensures.value (c.in-Ok-Some-Pushed.field-0-is ∙ ap Some c.in-Ok-Some-Pushed.field-0-0-is) c.in-Ok-Some-Pushed.ensures.forks in
    for-forked code a.cells r.cells a.environments r.environments a.x.items a.y.items r.x r.y c.fill.new.self.items c.fill-in-Ok-Some-Pushed.new.self.items a.roots.items at c.in-Ok-Some-Pushed.field-0-0-0 a.x.len a.y.len r.goals
    c.self.invariant c.fork_or_undo.ensures.keeps c.fork_or_undo.ensures.longer f.0 f.1 (c.fill.ensures.items (λ z f. cc)) (c.fill-in-Ok-Some-Pushed.ensures.items (λ z f. cc))
    (sym c.deref_mut.ensures.len ∙ ap length c.deref_mut.ensures.value) (sym c.deref_mut-2.ensures.len ∙ ap length c.deref_mut-2.ensures.value) (c.fork_or_undo.ensures.y_len ∙ ap length c.deref_mut-2.ensures.value) a.next a.spent a.budget (ap (λ (s : Paused). s.machine.now) c.self.view_is ∙ c.in-Inside.ensures) (subst (IsFor code) (sym c.self.view_is) c.requires.is_for)

pub invariant_of-self-in-Ok-Some-Plain : goal.invariant_of-self-in-Ok-Some-Plain
invariant_of-self-in-Ok-Some-Plain c =
    let a = c.self.inside in
    let code = c.args.sound.now in
    let at = c.in-Inside.at in
    let r = c.fork_or_undo.new in
    let f = as-forks code at a.cells r.cells a.x.items c.deref_mut.result.now a.y.items c.deref_mut-2.result.now r.x r.y (Some (Plain c.in-Ok-Some-Plain.to)) c.in-Ok-Some-Plain.field-0 r.goals a.environments r.environments
    c.deref_mut.ensures.value c.deref_mut-2.ensures.value (c.in-Ok-Some-Plain.field-0-is ∙ ap Some c.in-Ok-Some-Plain.field-0-0-is) c.in-Ok-Some-Plain.ensures.forks in
    let x : List ℕ = take a.x.len (r.x ++ drop (length r.x) a.x.items) in
    let y : List ℕ = take a.y.len (r.y ++ drop (length r.y) a.y.items) in
    let ex : x ≡ a.x.items = written a.x.len r.x (drop (length r.x) a.x.items) (c.fork_or_undo.ensures.x_len ∙ c.deref_mut.ensures.len) ∙ f.0.same_x in
    let ey : y ≡ a.y.items = written a.y.len r.y (drop (length r.y) a.y.items) (c.fork_or_undo.ensures.y_len ∙ c.deref_mut-2.ensures.len) ∙ f.0.same_y in
    Sane-plain code a.cells r.cells a.environments r.environments a.x.items a.y.items x y a.roots.items a.next a.spent a.budget at c.args.self.now c.self.view_is c.self.invariant c.fork_or_undo.ensures.keeps f.1 f.0.same_cells ex ey

pub returns-in-Ok-Some-Plain-clause-gone_on : goal.returns-in-Ok-Some-Plain-clause-gone_on
returns-in-Ok-Some-Plain-clause-gone_on c = λ no.
    let a = c.self.inside in
    let code = c.args.sound.now in
    let at = c.in-Inside.at in
    let r = c.fork_or_undo.new in
    let f = as-forks code at a.cells r.cells a.x.items c.deref_mut.result.now a.y.items c.deref_mut-2.result.now r.x r.y (Some (Plain c.in-Ok-Some-Plain.to)) c.in-Ok-Some-Plain.field-0 r.goals a.environments r.environments
    c.deref_mut.ensures.value c.deref_mut-2.ensures.value (c.in-Ok-Some-Plain.field-0-is ∙ ap Some c.in-Ok-Some-Plain.field-0-0-is) c.in-Ok-Some-Plain.ensures.forks in
    let x : List ℕ = take a.x.len (r.x ++ drop (length r.x) a.x.items) in
    let y : List ℕ = take a.y.len (r.y ++ drop (length r.y) a.y.items) in
    let ex : x ≡ a.x.items = written a.x.len r.x (drop (length r.x) a.x.items) (c.fork_or_undo.ensures.x_len ∙ c.deref_mut.ensures.len) ∙ f.0.same_x in
    let ey : y ≡ a.y.items = written a.y.len r.y (drop (length r.y) a.y.items) (c.fork_or_undo.ensures.y_len ∙ c.deref_mut-2.ensures.len) ∙ f.0.same_y in
    gone-plain code a.cells r.cells a.environments r.environments a.x.items a.y.items x y a.roots.items a.next a.spent a.budget at c.args.self.now c.self.view_is c.self.invariant c.fork_or_undo.ensures.keeps f.1 f.0.same_cells c.in-Ok-Some-Plain.to ex ey c.in-Inside.ensures f.0.way

pub returns-in-Ok-Some-Plain-clause-is_for : goal.returns-in-Ok-Some-Plain-clause-is_for
returns-in-Ok-Some-Plain-clause-is_for c =
    let a = c.self.inside in
    let code = c.args.sound.now in
    let at = c.in-Inside.at in
    let r = c.fork_or_undo.new in
    let f = as-forks code at a.cells r.cells a.x.items c.deref_mut.result.now a.y.items c.deref_mut-2.result.now r.x r.y (Some (Plain c.in-Ok-Some-Plain.to)) c.in-Ok-Some-Plain.field-0 r.goals a.environments r.environments
    c.deref_mut.ensures.value c.deref_mut-2.ensures.value (c.in-Ok-Some-Plain.field-0-is ∙ ap Some c.in-Ok-Some-Plain.field-0-0-is) c.in-Ok-Some-Plain.ensures.forks in
    let x : List ℕ = take a.x.len (r.x ++ drop (length r.x) a.x.items) in
    let y : List ℕ = take a.y.len (r.y ++ drop (length r.y) a.y.items) in
    let ex : x ≡ a.x.items = written a.x.len r.x (drop (length r.x) a.x.items) (c.fork_or_undo.ensures.x_len ∙ c.deref_mut.ensures.len) ∙ f.0.same_x in
    let ey : y ≡ a.y.items = written a.y.len r.y (drop (length r.y) a.y.items) (c.fork_or_undo.ensures.y_len ∙ c.deref_mut-2.ensures.len) ∙ f.0.same_y in
    for-plain code a.cells r.cells a.environments r.environments a.x.items a.y.items x y a.roots.items a.next a.spent a.budget at c.args.self.now c.self.view_is c.self.invariant c.fork_or_undo.ensures.keeps f.1 f.0.same_cells c.in-Ok-Some-Plain.to ex ey c.in-Inside.ensures c.requires.is_for

pub invariant_of-self-in-Ok-None : goal.invariant_of-self-in-Ok-None
invariant_of-self-in-Ok-None c =
    let a = c.self.inside in
    let code = c.args.sound.now in
    let at = c.in-Inside.at in
    let r = c.fork_or_undo.new in
    let f = as-forks code at a.cells r.cells a.x.items c.deref_mut.result.now a.y.items c.deref_mut-2.result.now r.x r.y (None) c.in-Ok-None.field-0 r.goals a.environments r.environments
    c.deref_mut.ensures.value c.deref_mut-2.ensures.value c.in-Ok-None.field-0-is c.in-Ok-None.ensures.forks in
    Sane-cut code a.cells r.cells a.environments r.environments a.x.items a.y.items c.fill-in-Ok-None.new.self.items c.fill-in-Ok-None-2.new.self.items a.roots.items a.next a.spent a.budget at c.args.self.now c.self.view_is c.self.invariant c.fork_or_undo.ensures.keeps f.2 f.1 a.x.len a.y.len (c.fill-in-Ok-None.ensures.items (λ z f. cc)) (c.fill-in-Ok-None-2.ensures.items (λ z f. cc))
    (sym c.deref_mut.ensures.len ∙ ap length c.deref_mut.ensures.value) (sym c.deref_mut-2.ensures.len ∙ ap length c.deref_mut-2.ensures.value)

pub returns-in-Ok-None-clause-gone_on : goal.returns-in-Ok-None-clause-gone_on
returns-in-Ok-None-clause-gone_on c = λ no.
    let a = c.self.inside in
    let code = c.args.sound.now in
    let at = c.in-Inside.at in
    let r = c.fork_or_undo.new in
    let f = as-forks code at a.cells r.cells a.x.items c.deref_mut.result.now a.y.items c.deref_mut-2.result.now r.x r.y (None) c.in-Ok-None.field-0 r.goals a.environments r.environments
    c.deref_mut.ensures.value c.deref_mut-2.ensures.value c.in-Ok-None.field-0-is c.in-Ok-None.ensures.forks in
    gone-cut code a.cells r.cells a.environments r.environments a.x.items a.y.items c.fill-in-Ok-None.new.self.items c.fill-in-Ok-None-2.new.self.items a.roots.items a.next a.spent a.budget at c.args.self.now c.self.view_is c.self.invariant c.fork_or_undo.ensures.keeps f.2 f.1 a.x.len a.y.len (c.fill-in-Ok-None.ensures.items (λ z f. cc)) (c.fill-in-Ok-None-2.ensures.items (λ z f. cc))
    (sym c.deref_mut.ensures.len ∙ ap length c.deref_mut.ensures.value) (sym c.deref_mut-2.ensures.len ∙ ap length c.deref_mut-2.ensures.value) c.in-Inside.ensures f.0

pub returns-in-Ok-None-clause-is_for : goal.returns-in-Ok-None-clause-is_for
returns-in-Ok-None-clause-is_for c =
    let a = c.self.inside in
    let code = c.args.sound.now in
    let at = c.in-Inside.at in
    let r = c.fork_or_undo.new in
    let f = as-forks code at a.cells r.cells a.x.items c.deref_mut.result.now a.y.items c.deref_mut-2.result.now r.x r.y (None) c.in-Ok-None.field-0 r.goals a.environments r.environments
    c.deref_mut.ensures.value c.deref_mut-2.ensures.value c.in-Ok-None.field-0-is c.in-Ok-None.ensures.forks in
    for-cut code a.cells r.cells a.environments r.environments a.x.items a.y.items c.fill-in-Ok-None.new.self.items c.fill-in-Ok-None-2.new.self.items a.roots.items a.next a.spent a.budget at c.args.self.now c.self.view_is c.self.invariant c.fork_or_undo.ensures.keeps f.2 f.1 a.x.len a.y.len (c.fill-in-Ok-None.ensures.items (λ z f. cc)) (c.fill-in-Ok-None-2.ensures.items (λ z f. cc))
    (sym c.deref_mut.ensures.len ∙ ap length c.deref_mut.ensures.value) (sym c.deref_mut-2.ensures.len ∙ ap length c.deref_mut-2.ensures.value) c.requires.is_for

pub invariant_of-self-in-Err : goal.invariant_of-self-in-Err
invariant_of-self-in-Err c =
    let a = c.self.inside in
    let code = c.args.sound.now in
    let at = c.in-Inside.at in
    let r = c.fork_or_undo.new in
    let ex : c.copy_from_slice.new.self.items ≡ a.x.items = c.copy_from_slice.ensures.items ∙ c.deref-in-Err.ensures.value ∙ c.in_ok-save_x.ensures refl ∙ c.deref.ensures.value in
    let ey : c.copy_from_slice-in-Err.new.self.items ≡ a.y.items = c.copy_from_slice-in-Err.ensures.items ∙ c.deref-in-Err-2.ensures.value ∙ c.in_ok-save_y.ensures refl ∙ c.deref-2.ensures.value in
    Sane-plain code a.cells r.cells a.environments r.environments a.x.items a.y.items c.copy_from_slice.new.self.items c.copy_from_slice-in-Err.new.self.items a.roots.items a.next a.spent a.budget at c.args.self.now c.self.view_is c.self.invariant c.fork_or_undo.ensures.keeps c.in-Err.ensures.none_kept c.in-Err.ensures.undone ex ey

pub returns-in-Err-clause-err : goal.returns-in-Err-clause-err
returns-in-Err-clause-err c =
    let a = c.self.inside in
    let code = c.args.sound.now in
    let at = c.in-Inside.at in
    let r = c.fork_or_undo.new in
    let ex : c.copy_from_slice.new.self.items ≡ a.x.items = c.copy_from_slice.ensures.items ∙ c.deref-in-Err.ensures.value ∙ c.in_ok-save_x.ensures refl ∙ c.deref.ensures.value in
    let ey : c.copy_from_slice-in-Err.new.self.items ≡ a.y.items = c.copy_from_slice-in-Err.ensures.items ∙ c.deref-in-Err-2.ensures.value ∙ c.in_ok-save_y.ensures refl ∙ c.deref-2.ensures.value in
    as-before code a.cells r.cells a.environments r.environments a.x.items a.y.items c.copy_from_slice.new.self.items c.copy_from_slice-in-Err.new.self.items a.roots.items a.next a.spent a.budget at c.args.self.now c.self.view_is c.self.invariant c.fork_or_undo.ensures.keeps c.in-Err.ensures.none_kept c.in-Err.ensures.undone a.next ex ey ∙ c.self.view_is

pub returns-in-Err-clause-is_for : goal.returns-in-Err-clause-is_for
returns-in-Err-clause-is_for c =
    let a = c.self.inside in
    let code = c.args.sound.now in
    let at = c.in-Inside.at in
    let r = c.fork_or_undo.new in
    let ex : c.copy_from_slice.new.self.items ≡ a.x.items = c.copy_from_slice.ensures.items ∙ c.deref-in-Err.ensures.value ∙ c.in_ok-save_x.ensures refl ∙ c.deref.ensures.value in
    let ey : c.copy_from_slice-in-Err.new.self.items ≡ a.y.items = c.copy_from_slice-in-Err.ensures.items ∙ c.deref-in-Err-2.ensures.value ∙ c.in_ok-save_y.ensures refl ∙ c.deref-2.ensures.value in
    subst (IsFor code) (sym (as-before code a.cells r.cells a.environments r.environments a.x.items a.y.items c.copy_from_slice.new.self.items c.copy_from_slice-in-Err.new.self.items a.roots.items a.next a.spent a.budget at c.args.self.now c.self.view_is c.self.invariant c.fork_or_undo.ensures.keeps c.in-Err.ensures.none_kept c.in-Err.ensures.undone a.next ex ey ∙ c.self.view_is)) c.requires.is_for
