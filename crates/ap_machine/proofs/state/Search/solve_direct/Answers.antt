use Rattle.std.proofs.Common.{◌≡◌, ℕ, List, ◌++◌, length, take, drop, ap, sym, ◌∙◌, subst}
use Rattle.ap_direct.specs.declared.goal.Goal.{Goal}
use Rattle.ap_direct_turns.specs.Solved.{SolvedOn}
use Rattle.ap_machine.specs.View.{Paused}
use Rattle.ap_machine.specs.Direct.{HasValue}
use Rattle.ap_machine.proofs.Sanity.{points-same}
use Rattle.ap_machine.proofs.Ran.{written, sane-ran, stays-ran, paused-same, sane-kept}
use Rattle.ap_machine.proofs.Solving.{kept-on-err, solved-moved, turn-of-direct}
use Rattle.ap_machine.proofs.Values.{solved-hold}
use Rattle.ap_machine.proofs.state.Search.solve_direct.Goals as goal

pub solve_value-requires-clause-value : goal.solve_value-requires-clause-value
solve_value-requires-clause-value c =
    let a = c.self.inside in
    let has : HasValue a.cells.cells a.x.items a.y.items c.requires.1.goal c.args.value = subst (λ (t : Paused). HasValue t.machine.cells t.machine.x t.machine.y c.requires.1.goal c.args.value) (sym c.self.view_is) c.requires.5 in
    subst (λ us. (g : Goal) × HasValue a.cells.cells us c.deref_mut-2.result.now g c.args.value) (sym c.deref_mut.ensures.value)
    (subst (λ us. (g : Goal) × HasValue a.cells.cells a.x.items us g c.args.value) (sym c.deref_mut-2.ensures.value) (c.requires.1.goal, has))

pub invariant_of-self : goal.invariant_of-self
invariant_of-self c =
    let a = c.self.inside in
    let r = c.solve_value.new in
    let x : List ℕ = take a.x.len (r.x ++ drop (length r.x) a.x.items) in
    let y : List ℕ = take a.y.len (r.y ++ drop (length r.y) a.y.items) in
    let ex : x ≡ r.x = written a.x.len r.x (drop (length r.x) a.x.items) (c.solve_value.ensures.x_len ∙ c.deref_mut.ensures.len) in
    let ey : y ≡ r.y = written a.y.len r.y (drop (length r.y) a.y.items) (c.solve_value.ensures.y_len ∙ c.deref_mut-2.ensures.len) in
    let e = c.in_err-holds.ensures.err in
    let kx : x ≡ a.x.items = ex ∙ e.1 ∙ c.deref_mut.ensures.value in
    let ky : y ≡ a.y.items = ey ∙ e.2 ∙ c.deref_mut-2.ensures.value in
    sane-kept a.cells r.cells a.environments a.x.items a.y.items x y a.roots.items c.self.invariant c.solve_value.ensures.keeps c.solve_value.ensures.longer kx ky

pub returns-in_err-holds-clause-kept : goal.returns-in_err-holds-clause-kept
returns-in_err-holds-clause-kept c =
    let a = c.self.inside in
    let r = c.solve_value.new in
    let x : List ℕ = take a.x.len (r.x ++ drop (length r.x) a.x.items) in
    let y : List ℕ = take a.y.len (r.y ++ drop (length r.y) a.y.items) in
    let ex : x ≡ r.x = written a.x.len r.x (drop (length r.x) a.x.items) (c.solve_value.ensures.x_len ∙ c.deref_mut.ensures.len) in
    let ey : y ≡ r.y = written a.y.len r.y (drop (length r.y) a.y.items) (c.solve_value.ensures.y_len ∙ c.deref_mut-2.ensures.len) in
    let e = c.in_err-holds.ensures.err in
    let kx : x ≡ a.x.items = ex ∙ e.1 ∙ c.deref_mut.ensures.value in
    let ky : y ≡ a.y.items = ey ∙ e.2 ∙ c.deref_mut-2.ensures.value in
    kept-on-err c.from_residual.result _ (paused-same a.cells r.cells a.environments a.x.items a.y.items x y a.roots.items a.next a.spent a.budget c.self.invariant c.solve_value.ensures.keeps e.0 kx ky ∙ c.self.view_is)

pub returns-in_err-holds-clause-stays : goal.returns-in_err-holds-clause-stays
returns-in_err-holds-clause-stays c =
    let a = c.self.inside in
    let r = c.solve_value.new in
    let x : List ℕ = take a.x.len (r.x ++ drop (length r.x) a.x.items) in
    let y : List ℕ = take a.y.len (r.y ++ drop (length r.y) a.y.items) in
    let ex : x ≡ r.x = written a.x.len r.x (drop (length r.x) a.x.items) (c.solve_value.ensures.x_len ∙ c.deref_mut.ensures.len) in
    let ey : y ≡ r.y = written a.y.len r.y (drop (length r.y) a.y.items) (c.solve_value.ensures.y_len ∙ c.deref_mut-2.ensures.len) in
    let e = c.in_err-holds.ensures.err in
    let kx : x ≡ a.x.items = ex ∙ e.1 ∙ c.deref_mut.ensures.value in
    let ky : y ≡ a.y.items = ey ∙ e.2 ∙ c.deref_mut-2.ensures.value in
    stays-ran a.cells r.cells a.environments a.x.items a.y.items x y a.roots.items a.next a.next a.spent a.budget c.args.self.now c.self.view_is c.self.invariant c.solve_value.ensures.keeps (ap length kx) (ap length ky)

pub returns-in_err-holds-clause-points : goal.returns-in_err-holds-clause-points
returns-in_err-holds-clause-points c =
    let a = c.self.inside in
    points-same a.cells c.solve_value.new.cells a.environments a.x.items a.y.items a.roots.items c.solve_value.ensures.keeps c.self.invariant ∙ ap (λ (t : Paused). t.machine.points) c.self.view_is

pub invariant_of-self-2 : goal.invariant_of-self-2
invariant_of-self-2 c =
    let a = c.self.inside in
    let r = c.solve_value.new in
    let x : List ℕ = take a.x.len (r.x ++ drop (length r.x) a.x.items) in
    let y : List ℕ = take a.y.len (r.y ++ drop (length r.y) a.y.items) in
    let ex : x ≡ r.x = written a.x.len r.x (drop (length r.x) a.x.items) (c.solve_value.ensures.x_len ∙ c.deref_mut.ensures.len) in
    let ey : y ≡ r.y = written a.y.len r.y (drop (length r.y) a.y.items) (c.solve_value.ensures.y_len ∙ c.deref_mut-2.ensures.len) in
    let solved : SolvedOn c.requires.1.goal a.cells.cells a.x.items a.y.items r.cells.cells x y c.in_ok-holds.holds =
    solved-moved a.cells r.cells a.environments a.x.items a.y.items x y a.roots.items a.next a.spent a.budget c.args.self.now c.self.view_is c.self.invariant c.solve_value.ensures.keeps
    c.args.code.now c.args.value c.args.to c.requires c.deref_mut.result.now c.deref_mut-2.result.now r.x r.y c.in_ok-holds.holds c.deref_mut.ensures.value c.deref_mut-2.ensures.value ex ey c.in_ok-holds.ensures.solved
    in
    let hold = solved-hold a.cells.cells r.cells.cells a.x.items a.y.items x y c.self.invariant.x c.self.invariant.y c.requires.1.goal c.in_ok-holds.holds c.solve_value.ensures.longer solved in
    sane-ran a.cells r.cells a.environments a.x.items a.y.items x y a.roots.items c.self.invariant c.solve_value.ensures.keeps c.solve_value.ensures.longer hold.0 hold.1
    (ap length ex ∙ c.solve_value.ensures.x_len ∙ ap length c.deref_mut.ensures.value) (ap length ey ∙ c.solve_value.ensures.y_len ∙ ap length c.deref_mut-2.ensures.value)

pub returns-clause-turn : goal.returns-clause-turn
returns-clause-turn c =
    λ p good.
    let a = c.self.inside in
    let r = c.solve_value.new in
    let x : List ℕ = take a.x.len (r.x ++ drop (length r.x) a.x.items) in
    let y : List ℕ = take a.y.len (r.y ++ drop (length r.y) a.y.items) in
    let ex : x ≡ r.x = written a.x.len r.x (drop (length r.x) a.x.items) (c.solve_value.ensures.x_len ∙ c.deref_mut.ensures.len) in
    let ey : y ≡ r.y = written a.y.len r.y (drop (length r.y) a.y.items) (c.solve_value.ensures.y_len ∙ c.deref_mut-2.ensures.len) in
    let solved : SolvedOn c.requires.1.goal a.cells.cells a.x.items a.y.items r.cells.cells x y c.in_ok-holds.holds =
    solved-moved a.cells r.cells a.environments a.x.items a.y.items x y a.roots.items a.next a.spent a.budget c.args.self.now c.self.view_is c.self.invariant c.solve_value.ensures.keeps
    c.args.code.now c.args.value c.args.to c.requires c.deref_mut.result.now c.deref_mut-2.result.now r.x r.y c.in_ok-holds.holds c.deref_mut.ensures.value c.deref_mut-2.ensures.value ex ey c.in_ok-holds.ensures.solved
    in
    turn-of-direct a.cells r.cells a.environments a.x.items a.y.items x y a.roots.items a.next a.spent a.budget c.args.self.now c.self.view_is c.self.invariant c.solve_value.ensures.keeps
    c.args.code.now c.args.value c.args.to c.requires c.direct_law.ensures c.is_store.ensures c.in_ok-holds.holds solved c.after_direct-self-inside.result c.after_direct-self-inside.ensures p good

pub returns-clause-stays : goal.returns-clause-stays
returns-clause-stays c =
    let a = c.self.inside in
    let r = c.solve_value.new in
    let x : List ℕ = take a.x.len (r.x ++ drop (length r.x) a.x.items) in
    let y : List ℕ = take a.y.len (r.y ++ drop (length r.y) a.y.items) in
    let ex : x ≡ r.x = written a.x.len r.x (drop (length r.x) a.x.items) (c.solve_value.ensures.x_len ∙ c.deref_mut.ensures.len) in
    let ey : y ≡ r.y = written a.y.len r.y (drop (length r.y) a.y.items) (c.solve_value.ensures.y_len ∙ c.deref_mut-2.ensures.len) in
    stays-ran a.cells r.cells a.environments a.x.items a.y.items x y a.roots.items a.next c.after_direct-self-inside.result a.spent a.budget c.args.self.now c.self.view_is c.self.invariant c.solve_value.ensures.keeps
    (ap length ex ∙ c.solve_value.ensures.x_len ∙ ap length c.deref_mut.ensures.value) (ap length ey ∙ c.solve_value.ensures.y_len ∙ ap length c.deref_mut-2.ensures.value)

pub returns-clause-points : goal.returns-clause-points
returns-clause-points c =
    let a = c.self.inside in
    points-same a.cells c.solve_value.new.cells a.environments a.x.items a.y.items a.roots.items c.solve_value.ensures.keeps c.self.invariant ∙ ap (λ (t : Paused). t.machine.points) c.self.view_is
