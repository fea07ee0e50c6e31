use Rattle.std.proofs.Common.{◌≡◌, ℕ, true, List, ◌++◌, length, take, drop, Some, None, arith, refl, ap, sym, ◌∙◌, subst}
use Rattle.std.proofs.lemmas.List.{length-replicate}
use Rattle.ap_cells.specs.Store.{Keeps}
use Rattle.ap_cells.proofs.Stores.{Keeps-trans}
use Rattle.ap_standing.specs.Machine.{inside}
use Rattle.ap_standing.specs.Holds.{Holds}
use Rattle.ap_control.specs.Runs.{RanOrStuck}
use Rattle.ap_machine.specs.declared.state.Now.TheVariants.{Inside, Failed}
use Rattle.ap_machine.specs.View.{machine_of}
use Rattle.ap_machine.proofs.Ran.{written, sane-ran, sane-kept, sane-cleared, machine-same, paused-same, stays-ran, rest-same, moved-ran, opened, ran-holds, stuck-holds}
use Rattle.ap_machine.proofs.state.Search.run.Goals as goal
use Rattle.ap_copy.proofs.Moves.{Keeps-same}

pub invariant_of-self : goal.invariant_of-self
invariant_of-self c =
    let a = c.self.inside in
    let e = ap length c.reserve.ensures.cells in
    sane-kept a.cells c.reserve.new.self a.environments a.x.items a.y.items a.x.items a.y.items a.roots.items c.self.invariant (Keeps-same a.cells c.reserve.new.self c.reserve.ensures.cells c.reserve.ensures.trail) (omega (arith, e)) refl refl

pub invariant_of-self-in_err-save_x : goal.invariant_of-self-in_err-save_x
invariant_of-self-in_err-save_x c =
    let a = c.self.inside in
    let e = ap length c.reserve.ensures.cells in
    sane-kept a.cells c.reserve.new.self a.environments a.x.items a.y.items a.x.items a.y.items a.roots.items c.self.invariant (Keeps-same a.cells c.reserve.new.self c.reserve.ensures.cells c.reserve.ensures.trail) (omega (arith, e)) refl refl

pub invariant_of-self-in_err-save_y : goal.invariant_of-self-in_err-save_y
invariant_of-self-in_err-save_y c =
    let a = c.self.inside in
    let e = ap length c.reserve.ensures.cells in
    sane-kept a.cells c.reserve.new.self a.environments a.x.items a.y.items a.x.items a.y.items a.roots.items c.self.invariant (Keeps-same a.cells c.reserve.new.self c.reserve.ensures.cells c.reserve.ensures.trail) (omega (arith, e)) refl refl

pub invariant_of-self-in-Ok-Some : goal.invariant_of-self-in-Ok-Some
invariant_of-self-in-Ok-Some c =
    let a = c.self.inside in
    let w = c.run_or_undo.new.cells in
    let r = c.run_or_undo.new in
    let x : List ℕ = take a.x.len (r.x ++ drop (length r.x) a.x.items) in
    let y : List ℕ = take a.y.len (r.y ++ drop (length r.y) a.y.items) in
    let ex : x ≡ r.x = written a.x.len r.x (drop (length r.x) a.x.items) (c.run_or_undo.ensures.x_len ∙ c.deref_mut.ensures.len) in
    let ey : y ≡ r.y = written a.y.len r.y (drop (length r.y) a.y.items) (c.run_or_undo.ensures.y_len ∙ c.deref_mut-2.ensures.len) in
    let keeps : Keeps a.cells w = Keeps-trans a.cells c.reserve.new.self w (Keeps-same a.cells c.reserve.new.self c.reserve.ensures.cells c.reserve.ensures.trail) c.run_or_undo.ensures.keeps in
    let h = subst (λ o. RanOrStuck c.args.code.now c.args.at c.reserve.new.self.cells c.deref_mut.result.now c.deref_mut-2.result.now o w.cells r.x r.y) c.in-Ok-Some.field-0-is c.in-Ok-Some.ensures.ran in
    let ran = moved-ran c.args.code.now c.args.at a.cells.cells c.reserve.new.self.cells w.cells a.x.items c.deref_mut.result.now a.y.items c.deref_mut-2.result.now x r.x y r.y (Some c.in-Ok-Some.to)
    c.reserve.ensures.cells c.deref_mut.ensures.value c.deref_mut-2.ensures.value ex ey h in
    sane-ran a.cells w a.environments a.x.items a.y.items x y a.roots.items c.self.invariant keeps ran.moves.longer ran.holds_x ran.holds_y
    (ap length ex ∙ c.run_or_undo.ensures.x_len ∙ ap length c.deref_mut.ensures.value) (ap length ey ∙ c.run_or_undo.ensures.y_len ∙ ap length c.deref_mut-2.ensures.value)

pub returns-in-Ok-Some-clause-holds : goal.returns-in-Ok-Some-clause-holds
returns-in-Ok-Some-clause-holds c = λ ss h₀.
    let a = c.self.inside in
    let w = c.run_or_undo.new.cells in
    let r = c.run_or_undo.new in
    let x : List ℕ = take a.x.len (r.x ++ drop (length r.x) a.x.items) in
    let y : List ℕ = take a.y.len (r.y ++ drop (length r.y) a.y.items) in
    let ex : x ≡ r.x = written a.x.len r.x (drop (length r.x) a.x.items) (c.run_or_undo.ensures.x_len ∙ c.deref_mut.ensures.len) in
    let ey : y ≡ r.y = written a.y.len r.y (drop (length r.y) a.y.items) (c.run_or_undo.ensures.y_len ∙ c.deref_mut-2.ensures.len) in
    let keeps : Keeps a.cells w = Keeps-trans a.cells c.reserve.new.self w (Keeps-same a.cells c.reserve.new.self c.reserve.ensures.cells c.reserve.ensures.trail) c.run_or_undo.ensures.keeps in
    let h = subst (λ o. RanOrStuck c.args.code.now c.args.at c.reserve.new.self.cells c.deref_mut.result.now c.deref_mut-2.result.now o w.cells r.x r.y) c.in-Ok-Some.field-0-is c.in-Ok-Some.ensures.ran in
    let ran = moved-ran c.args.code.now c.args.at a.cells.cells c.reserve.new.self.cells w.cells a.x.items c.deref_mut.result.now a.y.items c.deref_mut-2.result.now x r.x y r.y (Some c.in-Ok-Some.to)
    c.reserve.ensures.cells c.deref_mut.ensures.value c.deref_mut-2.ensures.value ex ey h in
    ran-holds c.args.code.now a.cells w a.environments a.x.items a.y.items x y a.roots.items c.args.at c.self.invariant keeps c.in-Ok-Some.to ran ss
    (opened c.args.code.now ss c.args.self.now (machine_of a.cells a.environments a.x.items a.y.items a.roots.items a.next) (inside c.args.at) (ap (λ s. s.machine) c.self.view_is) c.requires.here h₀)

pub invariant_of-self-in-Ok-None : goal.invariant_of-self-in-Ok-None
invariant_of-self-in-Ok-None c =
    let a = c.self.inside in
    let w = c.run_or_undo.new.cells in
    let keeps : Keeps a.cells w = Keeps-trans a.cells c.reserve.new.self w (Keeps-same a.cells c.reserve.new.self c.reserve.ensures.cells c.reserve.ensures.trail) c.run_or_undo.ensures.keeps in
    let e = ap length c.reserve.ensures.cells in
    let l = c.run_or_undo.ensures.longer in
    sane-cleared a.cells w a.environments a.x.items a.y.items c.clear_all_x.new.registers.items c.clear_all_y.new.registers.items a.roots.items a.x.len a.y.len c.self.invariant keeps (omega (arith, e, l)) c.clear_all_x.ensures.items c.clear_all_y.ensures.items
    (sym c.deref_mut.ensures.len ∙ ap length c.deref_mut.ensures.value) (sym c.deref_mut-2.ensures.len ∙ ap length c.deref_mut-2.ensures.value)

pub returns-in-Ok-None-clause-holds : goal.returns-in-Ok-None-clause-holds
returns-in-Ok-None-clause-holds c = λ ss h₀.
    let a = c.self.inside in
    let w = c.run_or_undo.new.cells in
    let r = c.run_or_undo.new in
    let keeps : Keeps a.cells w = Keeps-trans a.cells c.reserve.new.self w (Keeps-same a.cells c.reserve.new.self c.reserve.ensures.cells c.reserve.ensures.trail) c.run_or_undo.ensures.keeps in
    let h = subst (λ o. RanOrStuck c.args.code.now c.args.at c.reserve.new.self.cells c.deref_mut.result.now c.deref_mut-2.result.now o w.cells r.x r.y) c.in-Ok-None.field-0-is c.in-Ok-None.ensures.ran in
    let stuck = moved-ran c.args.code.now c.args.at a.cells.cells c.reserve.new.self.cells w.cells a.x.items c.deref_mut.result.now a.y.items c.deref_mut-2.result.now r.x r.x r.y r.y None
    c.reserve.ensures.cells c.deref_mut.ensures.value c.deref_mut-2.ensures.value refl refl h in
    stuck-holds c.args.code.now a.cells w a.environments a.x.items a.y.items c.clear_all_x.new.registers.items c.clear_all_y.new.registers.items a.roots.items c.args.at c.self.invariant keeps stuck ss
    (opened c.args.code.now ss c.args.self.now (machine_of a.cells a.environments a.x.items a.y.items a.roots.items a.next) (inside c.args.at) (ap (λ s. s.machine) c.self.view_is) c.requires.here h₀)

pub invariant_of-self-in-Err : goal.invariant_of-self-in-Err
invariant_of-self-in-Err c =
    let a = c.self.inside in
    let w = c.run_or_undo.new.cells in
    let keeps : Keeps a.cells w = Keeps-trans a.cells c.reserve.new.self w (Keeps-same a.cells c.reserve.new.self c.reserve.ensures.cells c.reserve.ensures.trail) c.run_or_undo.ensures.keeps in
    let e = ap length c.reserve.ensures.cells in
    let l = c.run_or_undo.ensures.longer in
    let said : c.may_want-may_want.result ≡ true = c.may_want-may_want.ensures c.args.code.now c.requires.room ∙ c.in-Err.ensures.wants in
    let ex : c.copy_from_slice.new.self.items ≡ a.x.items = c.copy_from_slice.ensures.items ∙ c.deref-in-Err.ensures.value ∙ c.in_ok-save_x.ensures said ∙ c.deref.ensures.value in
    let ey : c.copy_from_slice-in-Err.new.self.items ≡ a.y.items = c.copy_from_slice-in-Err.ensures.items ∙ c.deref-in-Err-2.ensures.value ∙ c.in_ok-save_y.ensures said ∙ c.deref-2.ensures.value in
    sane-kept a.cells w a.environments a.x.items a.y.items c.copy_from_slice.new.self.items c.copy_from_slice-in-Err.new.self.items a.roots.items c.self.invariant keeps (omega (arith, e, l)) ex ey

pub returns-in-Err-clause-kept : goal.returns-in-Err-clause-kept
returns-in-Err-clause-kept c =
    let a = c.self.inside in
    let w = c.run_or_undo.new.cells in
    let keeps : Keeps a.cells w = Keeps-trans a.cells c.reserve.new.self w (Keeps-same a.cells c.reserve.new.self c.reserve.ensures.cells c.reserve.ensures.trail) c.run_or_undo.ensures.keeps in
    let said : c.may_want-may_want.result ≡ true = c.may_want-may_want.ensures c.args.code.now c.requires.room ∙ c.in-Err.ensures.wants in
    let ex : c.copy_from_slice.new.self.items ≡ a.x.items = c.copy_from_slice.ensures.items ∙ c.deref-in-Err.ensures.value ∙ c.in_ok-save_x.ensures said ∙ c.deref.ensures.value in
    let ey : c.copy_from_slice-in-Err.new.self.items ≡ a.y.items = c.copy_from_slice-in-Err.ensures.items ∙ c.deref-in-Err-2.ensures.value ∙ c.in_ok-save_y.ensures said ∙ c.deref-2.ensures.value in
    paused-same a.cells w a.environments a.x.items a.y.items c.copy_from_slice.new.self.items c.copy_from_slice-in-Err.new.self.items a.roots.items a.next a.spent a.budget c.self.invariant keeps (c.in-Err.ensures.err ∙ c.reserve.ensures.cells) ex ey
    ∙ c.self.view_is

pub returns-in-Err-clause-holds : goal.returns-in-Err-clause-holds
returns-in-Err-clause-holds c = λ ss h.
    let a = c.self.inside in
    let w = c.run_or_undo.new.cells in
    let keeps : Keeps a.cells w = Keeps-trans a.cells c.reserve.new.self w (Keeps-same a.cells c.reserve.new.self c.reserve.ensures.cells c.reserve.ensures.trail) c.run_or_undo.ensures.keeps in
    let said : c.may_want-may_want.result ≡ true = c.may_want-may_want.ensures c.args.code.now c.requires.room ∙ c.in-Err.ensures.wants in
    let ex : c.copy_from_slice.new.self.items ≡ a.x.items = c.copy_from_slice.ensures.items ∙ c.deref-in-Err.ensures.value ∙ c.in_ok-save_x.ensures said ∙ c.deref.ensures.value in
    let ey : c.copy_from_slice-in-Err.new.self.items ≡ a.y.items = c.copy_from_slice-in-Err.ensures.items ∙ c.deref-in-Err-2.ensures.value ∙ c.in_ok-save_y.ensures said ∙ c.deref-2.ensures.value in
    subst (λ q. Holds c.args.code.now q ss)
    (sym (machine-same a.cells w a.environments a.x.items a.y.items c.copy_from_slice.new.self.items c.copy_from_slice-in-Err.new.self.items a.roots.items a.next c.self.invariant keeps (c.in-Err.ensures.err ∙ c.reserve.ensures.cells) ex ey ∙ ap (λ s. s.machine) c.self.view_is)) h

pub returns-in-Ok-Some-clause-rest : goal.returns-in-Ok-Some-clause-rest
returns-in-Ok-Some-clause-rest c =
    let a = c.self.inside in
    let keeps : Keeps a.cells c.run_or_undo.new.cells = Keeps-trans a.cells c.reserve.new.self c.run_or_undo.new.cells (Keeps-same a.cells c.reserve.new.self c.reserve.ensures.cells c.reserve.ensures.trail) c.run_or_undo.ensures.keeps in
    rest-same a.cells c.run_or_undo.new.cells a.environments a.x.items a.y.items _ _ a.roots.items a.next (Inside c.in-Ok-Some.to) c.args.self.now.machine (ap (λ s. s.machine) c.self.view_is) c.self.invariant keeps

pub returns-in-Ok-None-clause-rest : goal.returns-in-Ok-None-clause-rest
returns-in-Ok-None-clause-rest c =
    let a = c.self.inside in
    let keeps : Keeps a.cells c.run_or_undo.new.cells = Keeps-trans a.cells c.reserve.new.self c.run_or_undo.new.cells (Keeps-same a.cells c.reserve.new.self c.reserve.ensures.cells c.reserve.ensures.trail) c.run_or_undo.ensures.keeps in
    rest-same a.cells c.run_or_undo.new.cells a.environments a.x.items a.y.items _ _ a.roots.items a.next Failed c.args.self.now.machine (ap (λ s. s.machine) c.self.view_is) c.self.invariant keeps

pub returns-in-Ok-Some-clause-stays : goal.returns-in-Ok-Some-clause-stays
returns-in-Ok-Some-clause-stays c =
    let a = c.self.inside in
    let r = c.run_or_undo.new in
    let keeps : Keeps a.cells c.run_or_undo.new.cells = Keeps-trans a.cells c.reserve.new.self c.run_or_undo.new.cells (Keeps-same a.cells c.reserve.new.self c.reserve.ensures.cells c.reserve.ensures.trail) c.run_or_undo.ensures.keeps in
    let ex = written a.x.len r.x (drop (length r.x) a.x.items) (c.run_or_undo.ensures.x_len ∙ c.deref_mut.ensures.len) in
    let ey = written a.y.len r.y (drop (length r.y) a.y.items) (c.run_or_undo.ensures.y_len ∙ c.deref_mut-2.ensures.len) in
    stays-ran a.cells c.run_or_undo.new.cells a.environments a.x.items a.y.items _ _ a.roots.items a.next (Inside c.in-Ok-Some.to) a.spent a.budget c.args.self.now c.self.view_is c.self.invariant keeps
    (ap length ex ∙ c.run_or_undo.ensures.x_len ∙ ap length c.deref_mut.ensures.value) (ap length ey ∙ c.run_or_undo.ensures.y_len ∙ ap length c.deref_mut-2.ensures.value)

pub returns-in-Ok-None-clause-stays : goal.returns-in-Ok-None-clause-stays
returns-in-Ok-None-clause-stays c =
    let a = c.self.inside in
    let keeps : Keeps a.cells c.run_or_undo.new.cells = Keeps-trans a.cells c.reserve.new.self c.run_or_undo.new.cells (Keeps-same a.cells c.reserve.new.self c.reserve.ensures.cells c.reserve.ensures.trail) c.run_or_undo.ensures.keeps in
    stays-ran a.cells c.run_or_undo.new.cells a.environments a.x.items a.y.items c.clear_all_x.new.registers.items c.clear_all_y.new.registers.items a.roots.items a.next Failed a.spent a.budget c.args.self.now c.self.view_is c.self.invariant keeps
    (ap length c.clear_all_x.ensures.items ∙ length-replicate a.x.len 0 ∙ sym c.deref_mut.ensures.len ∙ ap length c.deref_mut.ensures.value)
    (ap length c.clear_all_y.ensures.items ∙ length-replicate a.y.len 0 ∙ sym c.deref_mut-2.ensures.len ∙ ap length c.deref_mut-2.ensures.value)

pub returns-in-Err-clause-stays : goal.returns-in-Err-clause-stays
returns-in-Err-clause-stays c =
    let a = c.self.inside in
    let keeps : Keeps a.cells c.run_or_undo.new.cells = Keeps-trans a.cells c.reserve.new.self c.run_or_undo.new.cells (Keeps-same a.cells c.reserve.new.self c.reserve.ensures.cells c.reserve.ensures.trail) c.run_or_undo.ensures.keeps in
    let said : c.may_want-may_want.result ≡ true = c.may_want-may_want.ensures c.args.code.now c.requires.room ∙ c.in-Err.ensures.wants in
    let ex : c.copy_from_slice.new.self.items ≡ a.x.items = c.copy_from_slice.ensures.items ∙ c.deref-in-Err.ensures.value ∙ c.in_ok-save_x.ensures said ∙ c.deref.ensures.value in
    let ey : c.copy_from_slice-in-Err.new.self.items ≡ a.y.items = c.copy_from_slice-in-Err.ensures.items ∙ c.deref-in-Err-2.ensures.value ∙ c.in_ok-save_y.ensures said ∙ c.deref-2.ensures.value in
    stays-ran a.cells c.run_or_undo.new.cells a.environments a.x.items a.y.items c.copy_from_slice.new.self.items c.copy_from_slice-in-Err.new.self.items a.roots.items a.next a.next a.spent a.budget c.args.self.now c.self.view_is c.self.invariant keeps (ap length ex) (ap length ey)
