use Rattle.std.proofs.Common.{◌≡◌, length, ap, ◌∙◌, arith}
use Rattle.ap_machine.specs.View.{Paused}
use Rattle.ap_machine.proofs.Parting.{no-moment, none-older, Sane-at-fork, at-fork, for-at-fork}
use Rattle.ap_machine.proofs.state.Search.come_to_fork.Goals as goal

pub returns-in_default-clause-some : goal.returns-in_default-clause-some
returns-in_default-clause-some c = λ g gs e.
    let i = c.self.inside in
    let none = no-moment i.cells i.environments i.x.items i.y.items i.roots.items i.next i.spent i.budget c.args.self.now c.self.view_is c.requires.newest in
    absurd (none-older i.cells i.environments i.x.items i.y.items i.roots.items i.next i.spent i.budget c.args.self.now c.self.view_is (c.newest_fork.ensures.none c.in_default.is none) g gs e)

pub invariant_of-self : goal.invariant_of-self
invariant_of-self c =
    let i = c.self.inside in
    let s = c.in-Some.ensures.some in
    let ex : i.x.len ≡ length i.x.items = omega (arith, i.x.ok.0) in
    let ey : i.y.len ≡ length i.y.items = omega (arith, i.y.ok.0) in
    Sane-at-fork i.cells c.undo_to.new.self i.environments c.leave.new.self i.x.items i.y.items c.fill.new.self.items c.fill-2.new.self.items i.roots.items s.1 s.2 s.0 s.3 c.self.invariant
    c.in-Some.fork s.4 c.undo_to.ensures.cells c.undo_to.ensures.older c.undo_to.ensures.older_leads c.leave.ensures i.x.len i.y.len (c.fill.ensures.items (λ z f. cc)) (c.fill-2.ensures.items (λ z f. cc)) ex ey

pub returns-clause-some : goal.returns-clause-some
returns-clause-some c =
    let i = c.self.inside in
    let s = c.in-Some.ensures.some in
    let ex : i.x.len ≡ length i.x.items = omega (arith, i.x.ok.0) in
    let ey : i.y.len ≡ length i.y.items = omega (arith, i.y.ok.0) in
    at-fork i.cells c.undo_to.new.self i.environments c.leave.new.self i.x.items i.y.items c.fill.new.self.items c.fill-2.new.self.items i.roots.items s.1 s.2 s.0 s.3 c.self.invariant
    c.in-Some.fork s.4 c.undo_to.ensures.cells c.undo_to.ensures.older c.undo_to.ensures.older_leads c.leave.ensures i.x.len i.y.len (c.fill.ensures.items (λ z f. cc)) (c.fill-2.ensures.items (λ z f. cc)) ex ey
    i.next i.next i.spent i.budget c.args.self.now c.self.view_is (ap (λ (t : Paused). t.machine.now) c.self.view_is ∙ c.requires.failed)

pub returns-clause-is_for : goal.returns-clause-is_for
returns-clause-is_for c =
    let i = c.self.inside in
    let s = c.in-Some.ensures.some in
    let ex : i.x.len ≡ length i.x.items = omega (arith, i.x.ok.0) in
    let ey : i.y.len ≡ length i.y.items = omega (arith, i.y.ok.0) in
    for-at-fork i.cells c.undo_to.new.self i.environments c.leave.new.self i.x.items i.y.items c.fill.new.self.items c.fill-2.new.self.items i.roots.items s.1 s.2 s.0 s.3 c.self.invariant
    c.in-Some.fork s.4 c.undo_to.ensures.cells c.undo_to.ensures.older c.undo_to.ensures.older_leads c.leave.ensures i.x.len i.y.len (c.fill.ensures.items (λ z f. cc)) (c.fill-2.ensures.items (λ z f. cc)) ex ey
    i.next i.next i.spent i.budget c.args.self.now c.self.view_is
