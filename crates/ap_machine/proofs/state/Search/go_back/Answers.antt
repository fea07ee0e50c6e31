use Rattle.std.proofs.Common.{ℕ, List, length, ap, sym, ◌∙◌, subst}
use Rattle.ap_control.proofs.Marks.{Keeps-refl}
use Rattle.ap_machine.specs.Back.{CanGoBack}
use Rattle.ap_machine.proofs.Alternatives.{written}
use Rattle.ap_machine.proofs.Returning.{can-return, Sane-written, returned-written}
use Rattle.ap_machine.proofs.state.Search.go_back.Goals as goal

pub back_to_newest-requires : goal.back_to_newest-requires
back_to_newest-requires c =
    let i = c.self.inside in
    subst (λ (xs : List ℕ). CanGoBack i.cells i.environments.moments (length xs)) (sym c.deref_mut.ensures.value)
    (can-return i.cells i.cells i.cells i.environments i.environments i.x.items i.y.items i.x.items i.y.items i.roots.items i.next i.spent i.budget c.args.self.now c.self.view_is c.self.invariant c.requires)

pub invariant_of-self : goal.invariant_of-self
invariant_of-self c =
    let i = c.self.inside in
    let b = c.back_to_newest in
    Sane-written i.cells i.cells b.new.cells i.environments b.new.environments i.x.items i.y.items b.new.x b.new.y i.roots.items i.next i.spent i.budget c.args.self.now c.self.view_is c.self.invariant c.requires
    (Keeps-refl i.cells) b.ensures.back (b.ensures.x_len ∙ ap length c.deref_mut.ensures.value) (b.ensures.y_len ∙ ap length c.deref_mut-2.ensures.value)
    _ _ (written i.x.len b.new.x i.x.items (b.ensures.x_len ∙ c.deref_mut.ensures.len)) (written i.y.len b.new.y i.y.items (b.ensures.y_len ∙ c.deref_mut-2.ensures.len))

pub returns : goal.returns
returns c =
    let i = c.self.inside in
    let b = c.back_to_newest in
    returned-written i.cells i.cells b.new.cells i.environments b.new.environments i.x.items i.y.items b.new.x b.new.y i.roots.items i.next i.spent i.budget c.args.self.now c.self.view_is c.self.invariant c.requires
    (Keeps-refl i.cells) b.ensures.back (b.ensures.x_len ∙ ap length c.deref_mut.ensures.value) (b.ensures.y_len ∙ ap length c.deref_mut-2.ensures.value)
    _ _ (written i.x.len b.new.x i.x.items (b.ensures.x_len ∙ c.deref_mut.ensures.len)) (written i.y.len b.new.y i.y.items (b.ensures.y_len ∙ c.deref_mut-2.ensures.len))
