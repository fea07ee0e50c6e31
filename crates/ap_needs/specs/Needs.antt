-- What runs of code need: from any place on to the next transfer of control.
use Rattle.std.specs.Prelude.{◌≡◌, ℕ, ◌+◌, ◌<◌, ◌≤◌, Bool, true, false, ◌||◌, if◌then◌else◌, List, [], ◌∷◌, length, take, drop, slice_get, slice_index_or, Some}
use Rattle.std.specs.List.{list_any}
use Rattle.ap_instr.specs.declared.compiled.Predicate.{Predicate}
use Rattle.ap_instr.specs.declared.instruction.Slot.{Slot}
use Rattle.ap_instr.specs.declared.instruction.Slot.TheVariants.{X, Y}
use Rattle.ap_instr.specs.declared.instruction.Instr.{Instr}
use Rattle.ap_instr.specs.declared.instruction.Instr.TheVariants.{GetVariable, GetValue, GetStructure, PutVariable, PutValue, PutConstant, PutInteger, PutStructure, UnifyVariable, UnifyValue, Allocate, Deallocate, Call, Execute, Proceed, Builtin, Jump, Fail, Try, Retry, Trust, CheckGround, CheckIndep, AllocParcall, PushGoal, WaitAll}
use Rattle.ap_instr.specs.Code.{Compiled}
use Rattle.ap_needs.specs.declared.room.Room.{Room}
use Rattle.ap_needs.specs.declared.widths.Widths.{Widths}

-- an instruction of control, and none on registers and cells
abbrev pub is_control : Instr → Bool
is_control (Allocate n) = true
is_control Deallocate = true
is_control (Call q) = true
is_control (Execute q) = true
is_control Proceed = true
is_control (Builtin b) = true
is_control (Jump l) = true
is_control Fail = true
is_control (Try l) = true
is_control (Retry l) = true
is_control (Trust l) = true
is_control (CheckGround v l) = true
is_control (CheckIndep v w l) = true
is_control (AllocParcall n l) = true
is_control (PushGoal i q) = true
is_control WaitAll = true
is_control _ = false

-- an instruction of control that doesn't lead to the next one: all but those that make and give back an environment
abbrev pub is_transfer : Instr → Bool
is_transfer (Allocate n) = false
is_transfer Deallocate = false
is_transfer i = is_control i

-- an argument that is what a register holds
abbrev pub is_value : Instr → Bool
is_value (UnifyValue v) = true
is_value _ = false

-- whether one stands among so many instructions from a place on
abbrev pub has_value : List Instr → ℕ → ℕ → Bool
has_value is at count = list_any is_value (take count (drop at is))

-- the most cells that an instruction makes; a structure's own is one, and those of its arguments count with it
abbrev pub cells_of : Instr → ℕ
cells_of (GetStructure f n a) = n + 1
cells_of (PutVariable v a) = 1
cells_of (PutConstant c a) = 1
cells_of (PutInteger i a) = 1
cells_of (PutStructure f n a) = n + 1
cells_of _ = 0

-- the cells that the instructions up to a transfer of control make at most
abbrev pub room : List Instr → ℕ
room [] = 0
room (i ∷ is) = if is_transfer i then 0 else cells_of i + room is

-- whether an instruction may want memory, by those behind it: where it unifies what a register holds
abbrev pub wants_memory : Instr → List Instr → Bool
wants_memory (GetValue v a) is = true
wants_memory (GetStructure f n a) is = has_value is 0 n
wants_memory _ is = false

-- whether one that may stands before the next transfer of control
abbrev pub wants : List Instr → Bool
wants [] = false
wants (i ∷ is) = if is_transfer i then false else wants_memory i is || wants is

-- what runs of the code need: at most so many cells, and memory just where the table says so
pub record IsRoomOf (code : Compiled) (r : Room) : Type 0 where
  pub cells : (at : ℕ) → room (drop at code.instructions) ≤ r.cells
  pub places : length r.wanting.items ≡ length code.instructions
  pub wanting : (at : ℕ) → slice_index_or r.wanting.items at false ≡ wants (drop at code.instructions)

-- a register among so many X and Y registers
abbrev pub HasRegister : Slot → ℕ → ℕ → Type 0
HasRegister (X n) xs ys = n < xs
HasRegister (Y n) xs ys = n < ys

-- the registers that an instruction writes are among so many X and Y registers
abbrev pub HasTargets : Instr → ℕ → ℕ → Type 0
HasTargets (GetVariable v a) xs ys = HasRegister v xs ys
HasTargets (PutVariable v a) xs ys = HasRegister v xs ys × (a < xs)
HasTargets (PutValue v a) xs ys = a < xs
HasTargets (PutConstant c a) xs ys = a < xs
HasTargets (PutInteger i a) xs ys = a < xs
HasTargets (PutStructure f n a) xs ys = a < xs
HasTargets (UnifyVariable v) xs ys = HasRegister v xs ys
HasTargets _ xs ys = Unit {0}

-- up to the next instruction of control, the registers that are written are among so many X and Y registers
abbrev pub AllHaveTargets : List Instr → ℕ → ℕ → Type 0
AllHaveTargets [] xs ys = Unit {0}
AllHaveTargets (i ∷ is) xs ys = HasTargets i xs ys × (is_control i ≡ false → AllHaveTargets is xs ys)

-- the registers that any run of the code writes, and those of arguments, are among so many X and Y registers
pub record AreWidthsOf (code : Compiled) (w : Widths) : Type 0 where
  pub targets : (at : ℕ) → AllHaveTargets (drop at code.instructions) w.x w.y
  pub arities : (n : ℕ) (q : Predicate) → slice_get code.predicates n ≡ Some q → q.arity < w.x
