use Rattle.std.proofs.Common.{◌≡◌, ℕ, ◌≤◌, List, ◌∷◌, ◌++◌, length, take, drop, ap, sym, ◌∙◌, subst}
use Rattle.std.specs.Vec.{vec_len}
use Rattle.ap_standing.specs.Machine.{returning}
use Rattle.ap_steps.specs.Moves.{held}
use Rattle.ap_steps.specs.Standing.{Return}
use Rattle.ap_machine.specs.Sane.{AreShort}
use Rattle.ap_machine.specs.View.{machine_of}
use Rattle.ap_machine.proofs.Ran.{written, opened}
use Rattle.ap_machine.proofs.Sanity.{held-zeros}
use Rattle.ap_machine.proofs.Transfers.{came}
use Rattle.ap_machine.proofs.state.Search.come_back.Goals as goal

pub returns-in-Some-clause-holds : goal.returns-in-Some-clause-holds
returns-in-Some-clause-holds c = λ code ss h.
    let a = c.self.inside in
    let p = c.in-Some.ensures.some in
    let y : List ℕ = take a.y.len (c.pop.new.y ++ drop (length c.pop.new.y) a.y.items) in
    let ey : y ≡ c.pop.new.y = written a.y.len c.pop.new.y (drop (length c.pop.new.y) a.y.items) (c.pop.ensures.len ∙ c.deref_mut.ensures.len) in
    let er : a.environments.returns ≡ p.0 ∷ p.1 = p.2 in
    let S : List Return → Type 0 = λ ws. AreShort (length a.y.items) ws in
    let short : length p.0.y ≤ length a.y.items = (subst S er c.self.invariant.short).0 in
    let L : List ℕ → Type 0 = λ us. length p.0.y ≤ length us in
    came code a.cells a.environments c.pop.new.self a.x.items a.y.items c.clear_all_x.new.registers.items y a.roots.items c.in-Some.place p.0 p.1 c.is_store.ensures c.self.invariant er p.3 p.4
    (λ n. ap (λ us. held us n) c.clear_all_x.ensures.items ∙ held-zeros (vec_len a.x) n)
    (λ n. ap (λ us. held us n) ey ∙ p.5 n (subst L (sym c.deref_mut.ensures.value) short)) ss
    (opened code ss c.args.self.now (machine_of a.cells a.environments a.x.items a.y.items a.roots.items a.next) returning (ap (λ s. s.machine) c.self.view_is) c.requires h)
