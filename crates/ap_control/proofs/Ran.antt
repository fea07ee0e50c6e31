-- Runs, one instruction behind another.
use Rattle.std.proofs.Common.{◌≡◌, ℕ, zero, suc, ◌+◌, ◌≤◌, true, false, List, ◌∷◌, length, drop, slice_get, Some, ap, ◌∙◌, subst, arith}
use Rattle.std.proofs.lemmas.Option.{slice_get_within}
use Rattle.ap_cells.specs.declared.cells.Raw.{Raw}
use Rattle.ap_cells.specs.Store.{Store}
use Rattle.ap_instr.specs.declared.instruction.Instr.{Instr}
use Rattle.ap_instr.specs.Code.{Compiled}
use Rattle.ap_instr.specs.Step.{step_of}
use Rattle.ap_instr.specs.Steps.{steps_from}
use Rattle.ap_needs.specs.Needs.{cells_of, room, wants, is_transfer}
use Rattle.ap_needs.proofs.Places.{steps-next}
use Rattle.ap_steps.specs.Moves.{held, Moves, IsStuck}
use Rattle.ap_steps.specs.Ways.{NoneOfControl, Passed}
use Rattle.ap_steps.proofs.Steps.{Moves-trans, Moves-stuck}
use Rattle.ap_steps.proofs.MemoryWants.{wants-on, wants-past}
use Rattle.ap_steps.proofs.Places.{room-here, none-room}
use Rattle.ap_control.specs.Runs.{Ran}
use Rattle.ap_control.proofs.Openness.{openly-past}

-- one instruction more, which stands at a place
module _ (code : Compiled) (at place : ℕ) (cs : List Raw) (x y : List ℕ) (v : Store) (x' y' : List ℕ) (i : Instr) (e : slice_get code.instructions place ≡ Some i) where
  module _ (r : Ran code at cs x y place v.cells x' y') where
    here : is_transfer i ≡ false → Moves cs (held x) (held y) (steps_from code at) v.cells (held x') (held y') (step_of code i ∷ steps_from code (place + 1))
    here goes_on = subst (Moves cs (held x) (held y) (steps_from code at) v.cells (held x') (held y')) (steps-next code place i e goes_on) r.moves

    pub ran-on : (n : ℕ) (w : Store) (x'' y'' : List ℕ) → Passed code i (place + 1) n v x' y' w x'' y'' → Ran code at cs x y (place + (1 + n)) w.cells x'' y''
    ran-on n w x'' y'' p =
        let q : place + 1 + n ≡ place + (1 + n) = omega arith in
        subst (λ m. Ran code at cs x y m w.cells x'' y'') q (record {
          moves = Moves-trans cs v.cells w.cells (held x) (held y) (held x') (held y') (held x'') (held y'') (steps_from code at) (step_of code i ∷ steps_from code (place + 1)) (steps_from code (place + 1 + n)) (here p.goes_on) p.moves;
          openly = λ o. openly-past code place n i e p.goes_on p.arguments (r.openly o);
          holds_x = p.holds_x;
          holds_y = p.holds_y;
        })

    pub ran-stuck : (is_transfer i ≡ false) × IsStuck v.cells (held x') (held y') (step_of code i ∷ steps_from code (place + 1)) → IsStuck cs (held x) (held y) (steps_from code at)
    ran-stuck s = Moves-stuck cs v.cells (held x) (held y) (held x') (held y') (steps_from code at) (step_of code i ∷ steps_from code (place + 1)) (here s.0) s.1

  pub room-on : (n : ℕ) (w : Store) (x'' y'' : List ℕ) → Passed code i (place + 1) n v x' y' w x'' y'' → room (drop place code.instructions) ≤ v.spare → room (drop (place + (1 + n)) code.instructions) ≤ w.spare
  room-on n w x'' y'' p h =
      let a : room (drop place code.instructions) ≡ cells_of i + room (drop (place + 1) code.instructions) = room-here code.instructions place i e p.goes_on in
      let b : room (drop (place + 1 + n) code.instructions) ≤ room (drop (place + 1) code.instructions) = none-room code.instructions (place + 1) n p.arguments in
      let q : place + 1 + n ≡ place + (1 + n) = omega arith in
      let c : room (drop (place + 1 + n) code.instructions) ≡ room (drop (place + (1 + n)) code.instructions) = ap (λ m. room (drop m code.instructions)) q in
      let d : v.spare ≤ w.spare + cells_of i = p.spare in
      omega arith

  -- what is behind it and wants memory counts with it
  pub wants-behind : (n : ℕ) (w : Store) (x'' y'' : List ℕ) → Passed code i (place + 1) n v x' y' w x'' y'' → wants (drop (place + (1 + n)) code.instructions) ≡ true → wants (drop place code.instructions) ≡ true
  wants-behind n w x'' y'' p h =
      let q : place + 1 + n ≡ place + (1 + n) = omega arith in
      wants-on code.instructions place i e p.goes_on (wants-past code.instructions (place + 1) n p.arguments (ap (λ m. wants (drop m code.instructions)) q ∙ h))

-- instructions that stand there lie inside
pub none-inside : (is : List Instr) (at n : ℕ) → NoneOfControl is at n → at ≤ length is → at + n ≤ length is
none-inside is at n none h = go n none
  where
    go : (n : ℕ) → NoneOfControl is at n → at + n ≤ length is
    go zero none = omega arith
    go (suc n) none = let last = none n (omega arith) in let l = slice_get_within is (at + n) last.0 last.1 in omega arith
