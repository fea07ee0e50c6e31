use Rattle.std.proofs.Common.{◌≡◌, ℕ, true, false, List, length, ap, sym, ◌∙◌, subst, arith}
use Rattle.std.specs.Prelude.{IfOk}
use Rattle.ap_cells.specs.Store.{Keeps}
use Rattle.ap_cells.specs.declared.cells.Raw.{Raw}
use Rattle.ap_cells.proofs.Stores.{Keeps-trans}
use Rattle.ap_control.specs.Taking.{CanTake}
use Rattle.ap_steps.specs.Moves.{held, IsStuck}
use Rattle.ap_instr.specs.Steps.{steps_from}
use Rattle.ap_machine.specs.View.{Paused}
use Rattle.ap_machine.specs.Back.{CanGoBack}
use Rattle.ap_machine.proofs.Alternatives.{written}
use Rattle.ap_machine.proofs.Sanity.{Sane-keeps}
use Rattle.ap_machine.proofs.Returning.{can-return, Sane-written, returned-written}
use Rattle.ap_machine.proofs.state.Search.try_clause.Goals as goal
use Rattle.ap_copy.proofs.Moves.{Keeps-same}

pub invariant_of-self : goal.invariant_of-self
invariant_of-self c =
    let i = c.self.inside in
    Sane-keeps i.cells c.reserve.new.self i.environments i.x.items i.y.items i.roots.items
    (Keeps-same i.cells c.reserve.new.self c.reserve.ensures.cells c.reserve.ensures.trail) (omega (arith, ap length c.reserve.ensures.cells)) c.self.invariant

pub run_and_go_back-requires-clause-back : goal.run_and_go_back-requires-clause-back
run_and_go_back-requires-clause-back c =
    let i = c.self.inside in
    let a = c.requires.at in
    let keeps : Keeps i.cells c.reserve.new.self = Keeps-same i.cells c.reserve.new.self c.reserve.ensures.cells c.reserve.ensures.trail in
    let b : CanGoBack i.cells i.environments.moments (length i.x.items) =
    can-return i.cells i.cells i.cells i.environments i.environments i.x.items i.y.items i.x.items i.y.items i.roots.items i.next i.spent i.budget c.args.self.now c.self.view_is c.self.invariant (a.point, a.others, a.points)
    in
    subst (λ (xs : List ℕ). CanGoBack c.reserve.new.self i.environments.moments (length xs)) (sym c.deref_mut.ensures.value)
    (b.0, b.1, b.2, keeps.stays b.0.choice.cells b.0.choice.trail b.3, b.4)

pub invariant_of-self-2 : goal.invariant_of-self-2
invariant_of-self-2 c =
    let i = c.self.inside in
    let a = c.requires.at in
    let b = c.run_and_go_back in
    Sane-written i.cells b.ensures.back.0 b.new.cells i.environments b.new.environments i.x.items i.y.items b.new.x b.new.y i.roots.items i.next i.spent i.budget c.args.self.now c.self.view_is c.self.invariant (a.point, a.others, a.points)
    (Keeps-trans i.cells c.reserve.new.self b.ensures.back.0 (Keeps-same i.cells c.reserve.new.self c.reserve.ensures.cells c.reserve.ensures.trail) b.ensures.back.1) b.ensures.back.2
    (b.ensures.x_len ∙ ap length c.deref_mut.ensures.value) (b.ensures.y_len ∙ ap length c.deref_mut-2.ensures.value)
    _ _ (written i.x.len b.new.x i.x.items (b.ensures.x_len ∙ c.deref_mut.ensures.len)) (written i.y.len b.new.y i.y.items (b.ensures.y_len ∙ c.deref_mut-2.ensures.len))

pub returns-clause-stuck : goal.returns-clause-stuck
returns-clause-stuck c =
    let s = c.args.self.now in
    let is = steps_from c.args.code.now c.args.place in
    let ec = c.reserve.ensures.cells ∙ ap (λ (t : Paused). t.machine.cells) c.self.view_is in
    let ex = c.deref_mut.ensures.value ∙ ap (λ (t : Paused). t.machine.x) c.self.view_is in
    let ey = c.deref_mut-2.ensures.value ∙ ap (λ (t : Paused). t.machine.y) c.self.view_is in
    subst (λ (cs : List Raw). IfOk c.run_and_go_back.result (λ b. b ≡ false → IsStuck cs (held s.machine.x) (held s.machine.y) is)) ec
    (subst (λ (xs : List ℕ). IfOk c.run_and_go_back.result (λ b. b ≡ false → IsStuck c.reserve.new.self.cells (held xs) (held s.machine.y) is)) ex
    (subst (λ (ys : List ℕ). IfOk c.run_and_go_back.result (λ b. b ≡ false → IsStuck c.reserve.new.self.cells (held c.deref_mut.result.now) (held ys) is)) ey c.run_and_go_back.ensures.stuck))

pub returns-clause-back : goal.returns-clause-back
returns-clause-back c =
    let i = c.self.inside in
    let a = c.requires.at in
    let b = c.run_and_go_back in
    returned-written i.cells b.ensures.back.0 b.new.cells i.environments b.new.environments i.x.items i.y.items b.new.x b.new.y i.roots.items i.next i.spent i.budget c.args.self.now c.self.view_is c.self.invariant (a.point, a.others, a.points)
    (Keeps-trans i.cells c.reserve.new.self b.ensures.back.0 (Keeps-same i.cells c.reserve.new.self c.reserve.ensures.cells c.reserve.ensures.trail) b.ensures.back.1) b.ensures.back.2
    (b.ensures.x_len ∙ ap length c.deref_mut.ensures.value) (b.ensures.y_len ∙ ap length c.deref_mut-2.ensures.value)
    _ _ (written i.x.len b.new.x i.x.items (b.ensures.x_len ∙ c.deref_mut.ensures.len)) (written i.y.len b.new.y i.y.items (b.ensures.y_len ∙ c.deref_mut-2.ensures.len))

pub returns-clause-taken : goal.returns-clause-taken
returns-clause-taken c =
    let s = c.args.self.now in
    let ec = c.reserve.ensures.cells ∙ ap (λ (t : Paused). t.machine.cells) c.self.view_is in
    let ex = c.deref_mut.ensures.value ∙ ap (λ (t : Paused). t.machine.x) c.self.view_is in
    subst (λ (cs : List Raw). IfOk c.run_and_go_back.result (λ b. b ≡ true → CanTake c.args.code.now cs (held s.machine.x) c.args.place)) ec
    (subst (λ (xs : List ℕ). IfOk c.run_and_go_back.result (λ b. b ≡ true → CanTake c.args.code.now c.reserve.new.self.cells (held xs) c.args.place)) ex c.run_and_go_back.ensures.taken)
