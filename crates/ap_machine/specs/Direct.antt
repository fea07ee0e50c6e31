-- What a goal of arithmetic comes to, from cells and registers.
use Rattle.std.specs.Prelude.{◌≡◌, ℕ, ℤ, List, length, Some}
use Rattle.ap_term.specs.Arithmetic.{eval, compare_values}
use Rattle.ap_cells.specs.declared.cells.Raw.{Raw}
use Rattle.ap_instr.specs.declared.instruction.Slot.{Slot}
use Rattle.ap_instr.specs.declared.instruction.Slot.TheVariants.{X, Y}
use Rattle.ap_instr.specs.Runs.{read}
use Rattle.ap_instr.specs.Code.{Compiled}
use Rattle.ap_needs.specs.Needs.{HasRegister}
use Rattle.ap_steps.specs.Moves.{held}
use Rattle.ap_direct.specs.declared.goal.Goal.{Goal}
use Rattle.ap_direct.specs.declared.goal.Goal.TheVariants.{Compare, Match, Give}
use Rattle.ap_direct.specs.declared.goal.Direct.{Direct}
use Rattle.ap_direct.specs.Goals.{AsksFirst}
use Rattle.ap_direct_turns.specs.Solved.{own_part}
use Rattle.ap_standing.specs.Machine.{inside, Machine}
use Rattle.ap_machine.specs.declared.direct.Value.{Value}
use Rattle.ap_machine.specs.declared.direct.Value.TheVariants.{Holds, Match as Matches, GiveTemporary, GivePermanent}

-- the goal gives this register this value
abbrev pub Gives : List Raw → List ℕ → List ℕ → Goal → Slot → ℤ → Type 0
Gives cs x y (Give v a) w z = (w ≡ v) × HasRegister v (length x) (length y) × (eval (own_part cs x y a) ≡ Some z)
Gives cs x y _ w z = ⊥

-- the value of a register that is given one
abbrev pub given : Slot → ℤ → Value
given (X n) z = GiveTemporary n z
given (Y n) z = GivePermanent n z

-- the goal comes to this value
abbrev pub HasValue : List Raw → List ℕ → List ℕ → Goal → Value → Type 0
HasValue cs x y (Compare op a b) (Holds r) = compare_values op (eval (own_part cs x y a)) (eval (own_part cs x y b)) ≡ r
HasValue cs x y (Match v a) (Matches place z) = (place ≡ read v (held x) (held y)) × (eval (own_part cs x y a) ≡ Some z)
HasValue cs x y g (GiveTemporary n z) = Gives cs x y g (X n) z
HasValue cs x y g (GivePermanent n z) = Gives cs x y g (Y n) z
HasValue cs x y _ _ = ⊥

-- control is at a place where the code asks for a goal of arithmetic first, which comes to this value, and goes on at another place
abbrev pub IsDirectDue : Compiled → Machine → Value → ℕ → Type 0
IsDirectDue code m value to = (at : ℕ) × (d : Direct) × (m.now ≡ inside at) × AsksFirst code at d × (d.to ≡ to) × HasValue m.cells m.x m.y d.goal value
