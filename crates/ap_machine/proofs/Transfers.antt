-- A search at an instruction of control, and at the end of a clause.
use Rattle.std.proofs.Common.{◌≡◌, ℕ, ◌+◌, ◌-◌, ◌<◌, ◌≤◌, ◌⊎◌, List, ◌∷◌, length, map, slice_get, Some, None, inl, inr, ap, sym, ◌∙◌, subst, arith}
use Rattle.std.proofs.lemmas.Option.{slice_get_within}
use Rattle.ap_tracked.specs.Tracked.{Tracked}
use Rattle.ap_cells.specs.Store.{Store, IsStore}
use Rattle.ap_instr.specs.declared.instruction.Instr.{Instr}
use Rattle.ap_instr.specs.declared.compiled.Predicate.{Predicate}
use Rattle.ap_instr.specs.Code.{Compiled}
use Rattle.ap_instr.specs.declared.instruction.Instr.TheVariants.{Deallocate, Proceed}
use Rattle.ap_instr.specs.Step.{call, execute, proceed, frame, other, step_of}
use Rattle.ap_instr.specs.Steps.{steps_from}
use Rattle.ap_instr.proofs.Steps.{steps-past}
use Rattle.ap_control.specs.Runs.{IsEndAt}
use Rattle.ap_environments.specs.Kept.{Kept}
use Rattle.ap_steps.specs.Moves.{held, IsStuck}
use Rattle.ap_steps.specs.Standing.{Return}
use Rattle.ap_standing.specs.Machine.{calling, inside, returning, failed, Machine}
use Rattle.ap_standing.specs.Holds.{IsApart, Holds}
use Rattle.ap_standing.specs.Laws.{machine, AsksNoMore, KeepsStanding}
use Rattle.ap_standing.proofs.Machines.{failed-inside, failed-at, made-call, made-last-call, made-ending-call, steps-at, ended, jumped, came-back}
use Rattle.ap_machine.specs.View.{Paused, point_of}
use Rattle.ap_machine.specs.Jumps.{JumpsTo}
use Rattle.ap_machine.specs.Sane.{Sane}
use Rattle.ap_machine.proofs.Kept.{bottom-fits}

module _ (code : Compiled) (m : Machine) (at : ℕ) (ss : List Tracked) (h : Holds code (record m { now = inside at }) ss) where
  -- behind the last instruction
  pub nowhere : slice_get code.instructions at ≡ None → Holds code (record m { now = failed }) ss
  nowhere e =
      failed-inside code m.roots m.points m.returns m.cells m.cells m.x m.y m.x m.y at
      (subst (IsStuck m.cells (held m.x) (held m.y)) (sym (steps-past code at e)) (λ k bs a. a.1)) ss h

  module _ (i : Instr) (stands : slice_get code.instructions at ≡ Some i) where
    pub breaks : step_of code i ≡ other → Holds code (record m { now = failed }) ss
    breaks e = failed-at code m.roots m.points m.returns m.cells m.x m.y at i stands e m.x m.y ss h

    pub ends : step_of code i ≡ proceed → Holds code (record m { now = returning }) ss
    ends e = ended code m.roots m.points m.returns m.cells m.x m.y at i m.x m.y stands e ss h

    pub calls_last : (number : ℕ) (q : Predicate) → step_of code i ≡ execute q.name q.arity → slice_get code.predicates number ≡ Some q → IsApart q → Holds code (record m { now = calling number }) ss
    calls_last number q e known apart = made-last-call code m.roots m.points m.returns m.cells m.x m.y at i number q m.y stands e known apart ss h

    pub calls_ending : (number : ℕ) (q : Predicate) → step_of code i ≡ call q.name q.arity → AsksNoMore (steps_from code (at + 1)) → slice_get code.predicates number ≡ Some q → IsApart q → Holds code (record m { now = calling number }) ss
    calls_ending number q e last known apart = made-ending-call code m.roots m.points m.returns m.cells m.x m.y at i number q m.y stands e last known apart ss h

-- where an environment is given back and the clause ends, nothing more is asked for
pub ends-here : (code : Compiled) (at : ℕ) → slice_get code.instructions at ≡ Some Deallocate → slice_get code.instructions (at + 1) ≡ Some Proceed → AsksNoMore (steps_from code at)
ends-here code at e f =
    subst AsksNoMore (sym (steps-at code at Deallocate e (λ d. cc) ∙ ap (λ is. frame ∷ is) (steps-at code (at + 1) Proceed f (λ d. cc)))) tt

-- a jump is taken
pub jumps-on : (code : Compiled) (s t : Paused) (at to : ℕ) → s.machine.now ≡ inside at → JumpsTo code at to → t ≡ record s { machine = record s.machine { now = inside to } } → KeepsStanding code s.machine t.machine
jumps-on code s t at to here j e ss h =
    let m = s.machine in
    subst (λ (u : Paused). Holds code u.machine ss) (sym e)
    (subst (λ p. Holds code (record m { now = inside p }) ss) (sym j.leads)
    (jumped code m.roots m.points m.returns m.cells m.x m.y at j.instr j.stands j.jumps ss (subst (λ n. Holds code (record m { now = n }) ss) here h)))

module _ (code : Compiled) (v : Store) (k k' : Kept) (x y x' y' roots : List ℕ) where
  -- a call, for which a return was put on
  pub called : (at : ℕ) (i : Instr) (number : ℕ) (q : Predicate) (saved : List ℕ) (place : ℕ) → slice_get code.instructions at ≡ Some i → step_of code i ≡ call q.name q.arity
      → slice_get code.predicates number ≡ Some q → IsApart q → ((n : ℕ) → held saved n ≡ held y n) → place ≡ at + 1 → k' ≡ record k { returns = record { place = place; y = saved } ∷ k.returns }
      → (ss : List Tracked) → Holds code (machine v.cells x y k.returns roots (map (point_of v) k.moments) (inside at)) ss
      → Holds code (machine v.cells x y k'.returns roots (map (point_of v) k'.moments) (calling number)) ss
  called at i number q saved place stands e known apart same ep ek ss h =
      let P : Kept → Type 0 = λ j. Holds code (machine v.cells x y j.returns roots (map (point_of v) j.moments) (calling number)) ss in
      let Q : ℕ → Type 0 = λ p. Holds code (machine v.cells x y (record { place = p; y = saved } ∷ k.returns) roots (map (point_of v) k.moments) (calling number)) ss in
      subst P (sym ek) (subst Q (sym ep) (made-call code roots (map (point_of v) k.moments) k.returns v.cells x y at i number q saved y stands e known apart same ss h))

  -- control came back to the innermost return
  pub came : (place : ℕ) (w : Return) (ws : List Return) → IsStore v.cells v.trail → Sane v k x y roots → k.returns ≡ w ∷ ws → w.place ≡ place → k' ≡ record k { returns = ws }
      → ((n : ℕ) → held x' n ≡ 0) → ((n : ℕ) → held y' n ≡ held w.y n)
      → (ss : List Tracked) → Holds code (machine v.cells x y k.returns roots (map (point_of v) k.moments) returning) ss
      → Holds code (machine v.cells x' y' k'.returns roots (map (point_of v) k'.moments) (inside place)) ss
  came place w ws store s er ep ek nx ny ss h =
      let P : Kept → Type 0 = λ j. Holds code (machine v.cells x' y' j.returns roots (map (point_of v) j.moments) (inside place)) ss in
      let Q : ℕ → Type 0 = λ p. Holds code (machine v.cells x' y' ws roots (map (point_of v) k.moments) (inside p)) ss in
      let R : List Return → Type 0 = λ us. Holds code (machine v.cells x y us roots (map (point_of v) k.moments) returning) ss in
      subst P (sym ek) (subst Q ep (came-back code roots (map (point_of v) k.moments) ws v.cells x y x' y' w (bottom-fits v store s.bottom) nx ny ss (subst R er h)))

-- a run that came to a place to stop at has gone further on in the code
pub end-further : (code : Compiled) (at stop to : ℕ) → IsEndAt code stop to → to ≡ stop → (at < stop) ⊎ (length code.instructions ≤ stop) → length code.instructions - to < length code.instructions - at
end-further code at stop to end e further = go (within end) further
  where
    within : IsEndAt code stop to → to < length code.instructions
    within (inl t) = slice_get_within code.instructions to t.0 t.1
    within (inr s) = s.1

    go : to < length code.instructions → (at < stop) ⊎ (length code.instructions ≤ stop) → length code.instructions - to < length code.instructions - at
    go w (inl l) = omega arith
    go w (inr l) = absurd (omega arith)
