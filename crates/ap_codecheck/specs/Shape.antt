-- What is known at a place of a clause's code, and what an instruction makes of it.
use Rattle.std.specs.Prelude.{ℕ, ◌-◌, ◌==◌, ◌&&◌, nat_le, if◌then◌else◌, Bool, true, false, Option, Some, None}
use Rattle.ap_instr.specs.declared.instruction.Slot.{Slot}
use Rattle.ap_instr.specs.declared.instruction.Slot.TheVariants.{X, Y}
use Rattle.ap_instr.specs.declared.instruction.Instr.{Instr}
use Rattle.ap_instr.specs.declared.instruction.Instr.TheVariants.{GetVariable, GetValue, GetConstant, GetInteger, GetStructure, PutVariable, PutValue, PutConstant, PutInteger, PutStructure, UnifyVariable, UnifyValue, UnifyConstant, UnifyInteger, Allocate, Deallocate, Call, Execute, Proceed, Builtin, Jump, Fail, Try, Retry, Trust, CheckGround, CheckIndep, AllocParcall, PushGoal, WaitAll}
use Rattle.ap_instr.specs.Runs.{set}

-- Which registers and permanent variables are set; for how many permanent variables the environment is, inside of one;
-- how many arguments of a structure are still to come; the register of the structure that is being built, which isn't set
-- until its arguments are done, so that no term can be made part of itself; and inside of a group, of how many goals it is
-- and the number of the last one that was pushed.
pub record Shape : Type 0 where
  pub x : ℕ → Bool
  pub y : ℕ → Bool
  pub room : Option ℕ
  pub pending : ℕ
  pub target : Option ℕ
  pub group : Option (ℕ × ℕ)

abbrev pub unset : ℕ → Bool
unset n = false

-- where a clause of a predicate with so many arguments begins
abbrev pub entry : ℕ → Shape
entry arity = record { x = λ n. nat_le 1 n && nat_le n arity; y = unset; room = None; pending = 0; target = None; group = None }

abbrev pub is_set : Shape → Slot → Bool
is_set s (X n) = s.x n
is_set s (Y n) = s.y n

abbrev pub write_x : Slot → (ℕ → Bool) → ℕ → Bool
write_x (X n) x = set x n true
write_x (Y n) x = x

abbrev pub write_y : Slot → (ℕ → Bool) → ℕ → Bool
write_y (X n) y = y
write_y (Y n) y = set y n true

abbrev pub write : Slot → Shape → Shape
write v s = record { x = write_x v s.x; y = write_y v s.y; room = s.room; pending = s.pending; target = s.target; group = s.group }

abbrev pub with_target : Option ℕ → (ℕ → Bool) → ℕ → Bool
with_target None x = x
with_target (Some a) x = set x a true

-- behind an argument, which is the last one or not; the last one makes the structure whole
abbrev pub passed : Bool → Shape → Shape
passed true s = record { x = with_target s.target s.x; y = s.y; room = s.room; pending = 0; target = None; group = s.group }
passed false s = record { x = s.x; y = s.y; room = s.room; pending = s.pending - 1; target = s.target; group = s.group }

abbrev pub behind_argument : Shape → Shape
behind_argument s = passed (s.pending == 1) s

-- the register of a structure of so many arguments, which is whole at once where it has none
abbrev pub awaited : ℕ → ℕ → Option ℕ
awaited n a = if n == 0 then None else Some a

-- behind the push of a goal of that number
abbrev pub pushed : ℕ → Option (ℕ × ℕ) → Option (ℕ × ℕ)
pushed i None = None
pushed i (Some g) = Some (g.0, i)

abbrev pub with_group : Option (ℕ × ℕ) → Shape → Shape
with_group g s = record { x = s.x; y = s.y; room = s.room; pending = s.pending; target = s.target; group = g }

-- the shape behind an instruction, of the shape before it
abbrev pub after : Instr → Shape → Shape
after (GetVariable v a) s = write v s
after (GetStructure f n a) s = record { x = s.x; y = s.y; room = s.room; pending = n; target = None; group = s.group }
after (PutVariable v a) s = write (X a) (write v s)
after (PutValue v a) s = write (X a) s
after (PutConstant c a) s = write (X a) s
after (PutInteger i a) s = write (X a) s
after (PutStructure f n a) s = record { x = set s.x a (n == 0); y = s.y; room = s.room; pending = n; target = awaited n a; group = s.group }
after (UnifyVariable v) s = behind_argument (write v s)
after (UnifyValue v) s = behind_argument s
after (UnifyConstant c) s = behind_argument s
after (UnifyInteger i) s = behind_argument s
after (Allocate n) s = record { x = s.x; y = unset; room = Some n; pending = s.pending; target = s.target; group = s.group }
after Deallocate s = record { x = s.x; y = unset; room = None; pending = s.pending; target = s.target; group = s.group }
after (Call q) s = record { x = unset; y = s.y; room = s.room; pending = s.pending; target = s.target; group = s.group }
after (GetValue v a) s = s
after (GetConstant c a) s = s
after (GetInteger i a) s = s
after (Execute q) s = s
after Proceed s = s
after (Builtin b) s = s
after (Jump l) s = s
after Fail s = s
after (Try l) s = s
after (Retry l) s = s
after (Trust l) s = s
after (CheckGround v l) s = s
after (CheckIndep v w l) s = s
after (AllocParcall n l) s = with_group (Some (n, 0)) s
after (PushGoal i q) s = with_group (pushed i s.group) s
after WaitAll s = record { x = unset; y = s.y; room = s.room; pending = s.pending; target = s.target; group = None }
