-- A built-in goal is a turn, whatever it is.
use Rattle.std.proofs.Common.{◌≡◌, ℕ, ◌<◌, Bool, List, length, map, slice_get, Some, Result, Ok, Err, ap, ap₂, sym, ◌∙◌, subst}
use Rattle.std.specs.List.{AllByRecursion}
use Rattle.std.specs.Prelude.{OnErr}
use Rattle.ap_cells.specs.Store.{Store, IsStore, Keeps}
use Rattle.ap_environments.specs.Kept.{Kept}
use Rattle.ap_term.specs.Goals.{Program}
use Rattle.ap_term.specs.WellFormed.{IsProgram}
use Rattle.ap_cells.specs.declared.cells.Raw.{Raw}
use Rattle.ap_instr.specs.declared.builtins.Builtin.{Builtin}
use Rattle.ap_instr.specs.declared.builtins.Builtin.TheVariants.{True, Fail, Relation}
use Rattle.ap_instr.specs.declared.instruction.Instr.TheVariants.{Builtin as builtin_instr}
use Rattle.ap_instr.specs.Code.{Compiled}
use Rattle.ap_steps.specs.Moves.{held, HoldPlaces}
use Rattle.ap_steps.specs.Standing.{Return}
use Rattle.ap_direct.specs.declared.goal.Goal.{Goal}
use Rattle.ap_direct.specs.declared.goal.Direct.{Direct}
use Rattle.ap_direct_turns.specs.Solved.{SolvedOn}
use Rattle.ap_direct_turns.specs.Laws.{behind_direct, DirectLaw}
use Rattle.ap_standing.specs.Machine.{Point, Now, inside, Machine, AreWithin}
use Rattle.ap_standing.specs.Laws.{machine, IsTurn, behind_goal}
use Rattle.ap_standing.proofs.Builtins.{solved-turn, true-turn, fail-turn}
use Rattle.ap_standing.proofs.Machines.{steps-at}
use Rattle.ap_machine.specs.declared.state.Now.{Now as Kind}
use Rattle.ap_machine.specs.declared.direct.Value.{Value}
use Rattle.ap_machine.specs.Direct.{HasValue, IsDirectDue}
use Rattle.ap_machine.specs.View.{Paused, now_of, point_of, segment_of, machine_of, paused_of}
use Rattle.ap_machine.specs.Sane.{Sane}
use Rattle.ap_machine.specs.Goal.{SolvedGoal}
use Rattle.ap_machine.proofs.Sanity.{points-same, segments-same}

-- the machine before a turn, by what it is equal to
pub IsTurn-from : (code : Compiled) (p : Program) (m : Machine) (cs : List Raw) (x y : List ℕ) (ws : List Return) (roots : List ℕ) (qs : List Point) (now now' : Now) (m' : Machine)
    → machine cs x y ws roots qs now ≡ m → m.now ≡ now' → IsTurn code p (machine cs x y ws roots qs now') m' → IsTurn code p m m'
IsTurn-from code p m cs x y ws roots qs now now' m' e en t =
    let same : now ≡ now' = ap (λ (k : Machine). k.now) e ∙ en in
    subst (λ k. IsTurn code p k m') e (subst (λ n. IsTurn code p (machine cs x y ws roots qs n) m') (sym same) t)

module _ (code : Compiled) (cs ds : List Raw) (ws : List Return) (roots : List ℕ) (qs : List Point) (x y : List ℕ) (at : ℕ) (p : Program) (good : IsProgram p)
    (hx : HoldPlaces (length cs) x) (hy : HoldPlaces (length cs) y) (hw : AreWithin (length cs) ws) (hr : AllByRecursion (λ r. r < length cs) roots) where
  pub goal-turn : (b : Builtin) (r : Bool) → slice_get code.instructions at ≡ Some (builtin_instr b) → SolvedGoal b cs ds (held x 1) (held x 2) r
      → IsTurn code p (machine cs x y ws roots qs (inside at)) (machine ds x y ws roots qs (behind_goal at r))
  goal-turn True r e s =
      subst (λ us. IsTurn code p (machine cs x y ws roots qs (inside at)) (machine us x y ws roots qs (behind_goal at r))) (sym s.0)
      (subst (λ b. IsTurn code p (machine cs x y ws roots qs (inside at)) (machine cs x y ws roots qs (behind_goal at b))) (sym s.1)
      (true-turn code cs ds ws roots qs x y at p good hx (steps-at code at (builtin_instr True) e (λ d. cc))))
  goal-turn Fail r e s =
      subst (λ b. IsTurn code p (machine cs x y ws roots qs (inside at)) (machine ds x y ws roots qs (behind_goal at b))) (sym s.1)
      (fail-turn code cs ds ws roots qs x y at p good hx (steps-at code at (builtin_instr Fail) e (λ d. cc)))
  goal-turn (Relation relation) r e s =
      solved-turn code cs ds ws roots qs x y at p good hx relation r (steps-at code at (builtin_instr (Relation relation)) e (λ d. cc)) hy hw hr s

-- ---- the search after a goal

pub kept-on-err : {T E : Type 0} (r : Result T E) (P : Type 0) → P → OnErr r P
kept-on-err (Ok v) P h = tt
kept-on-err (Err e) P h = h

module _ (v w : Store) (k : Kept) (x y roots : List ℕ) (next : Kind) (spent budget : ℕ) (s : Paused)
    (view : paused_of v k x y roots next spent budget ≡ s) (sane : Sane v k x y roots) (keeps : Keeps v w) where
  pub view-kept : w.cells ≡ v.cells → ◌≡◌ {A = Paused} (paused_of w k x y roots next spent budget) s
  view-kept e =
      ap₂ (λ cs ps. record { machine = record { cells = cs; x = x; y = y; returns = k.returns; roots = roots; points = ps; now = now_of next }; spent = spent; budget = budget; older = map (segment_of w) k.forks })
      e (points-same v w k x y roots keeps sane)
      ∙ ap (λ gs. record { machine = machine_of v k x y roots next; spent = spent; budget = budget; older = gs }) (segments-same v w k x y roots keeps sane)
      ∙ view

  pub turn-of-goal : (code : Compiled) (at : ℕ) → s.machine.now ≡ inside at → (b : Builtin) → slice_get code.instructions at ≡ Some (builtin_instr b)
      → (x' : List ℕ) → x' ≡ x → (r : Bool) → SolvedGoal b v.cells w.cells (held x' 1) (held x' 2) r → (next' : Kind) → now_of next' ≡ behind_goal at r
      → (p : Program) → IsProgram p → IsTurn code p s.machine (machine_of w k x y roots next')
  turn-of-goal code at due b e x' ex r solved next' en p good =
      let qs : List Point = map (point_of v) k.moments in
      let t : IsTurn code p (machine v.cells x y k.returns roots qs (inside at)) (machine w.cells x y k.returns roots qs (behind_goal at r)) =
      goal-turn code v.cells w.cells k.returns roots qs x y at p good sane.x sane.y sane.returns sane.inside b r e (subst (λ xs. SolvedGoal b v.cells w.cells (held xs 1) (held xs 2) r) ex solved)
      in
      IsTurn-from code p s.machine v.cells x y k.returns roots qs (now_of next) (inside at) (machine_of w k x y roots next') (ap (λ (t : Paused). t.machine) view) due
      (subst (λ ps. IsTurn code p (machine v.cells x y k.returns roots qs (inside at)) (machine w.cells x y k.returns roots ps (now_of next'))) (sym (points-same v w k x y roots keeps sane))
      (subst (λ n. IsTurn code p (machine v.cells x y k.returns roots qs (inside at)) (machine w.cells x y k.returns roots qs n)) (sym en) t))

-- ---- the search after a goal of arithmetic

module _ (v w : Store) (k : Kept) (x y x' y' roots : List ℕ) (next : Kind) (spent budget : ℕ) (s : Paused)
    (view : paused_of v k x y roots next spent budget ≡ s) (sane : Sane v k x y roots) (keeps : Keeps v w)
    (code : Compiled) (value : Value) (to : ℕ) (due : IsDirectDue code s.machine value to) where
  -- what is due, in the words of the search's fields
  pub direct-value : HasValue v.cells x y due.1.goal value
  direct-value = subst (λ (m : Machine). HasValue m.cells m.x m.y due.1.goal value) (sym (ap (λ (t : Paused). t.machine) view)) due.5

  -- what was made of other registers that are these
  pub solved-moved : (xs ys xs' ys' : List ℕ) (r : Bool) → xs ≡ x → ys ≡ y → x' ≡ xs' → y' ≡ ys' → ((g : Goal) → HasValue v.cells xs ys g value → SolvedOn g v.cells xs ys w.cells xs' ys' r)
      → SolvedOn due.1.goal v.cells x y w.cells x' y' r
  solved-moved xs ys xs' ys' r ex ey ex' ey' h =
      let g : Goal = due.1.goal in
      let S : List ℕ → List ℕ → List ℕ → List ℕ → Type 0 = λ p q p' q'. HasValue v.cells p q g value → SolvedOn g v.cells p q w.cells p' q' r in
      let k : S x y x' y' = subst (λ u. S x y x' u) (sym ey') (subst (λ u. S x y u ys') (sym ex') (subst (λ u. S x u xs' ys') ey (subst (λ u. S u ys xs' ys') ex (h g)))) in
      k direct-value

  pub turn-of-direct : DirectLaw → IsStore v.cells v.trail → (r : Bool) → SolvedOn due.1.goal v.cells x y w.cells x' y' r → (next' : Kind) → now_of next' ≡ behind_direct to r
      → (p : Program) → IsProgram p → IsTurn code p s.machine (machine_of w k x' y' roots next')
  turn-of-direct law store r solved next' en p good =
      let qs : List Point = map (point_of v) k.moments in
      let at : ℕ = due.0 in
      let d : Direct = due.1 in
      let t : IsTurn code p (machine v.cells x y k.returns roots qs (inside at)) (machine w.cells x' y' k.returns roots qs (behind_direct d.to r)) =
      law code v.cells w.cells v.trail k.returns roots qs x y x' y' at d r p good due.3 store sane.x sane.y sane.returns sane.inside solved
      in
      IsTurn-from code p s.machine v.cells x y k.returns roots qs (now_of next) (inside at) (machine_of w k x' y' roots next') (ap (λ (t : Paused). t.machine) view) due.2
      (subst (λ ps. IsTurn code p (machine v.cells x y k.returns roots qs (inside at)) (machine w.cells x' y' k.returns roots ps (now_of next'))) (sym (points-same v w k x y roots keeps sane))
      (subst (λ n. IsTurn code p (machine v.cells x y k.returns roots qs (inside at)) (machine w.cells x' y' k.returns roots qs n)) (ap (λ q. behind_direct q r) due.4 ∙ sym en) t))
