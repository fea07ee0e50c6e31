-- The rules that code has to keep, each at a place.
use Rattle.std.specs.Prelude.{◌≡◌, ℕ, ◌+◌, ◌<◌, ◌≤◌, nat_lt, Bool, true, false, slice_get, length, Option, Some, None, is_some, IfSome}
use Rattle.ap_instr.specs.declared.instruction.Slot.{Slot}
use Rattle.ap_instr.specs.declared.instruction.Slot.TheVariants.{X, Y}
use Rattle.ap_instr.specs.declared.instruction.Instr.{Instr}
use Rattle.ap_instr.specs.declared.instruction.Instr.TheVariants.{GetVariable, GetValue, GetConstant, GetInteger, GetStructure, PutVariable, PutValue, PutConstant, PutInteger, PutStructure, UnifyVariable, UnifyValue, UnifyConstant, UnifyInteger, Allocate, Deallocate, Call, Execute, Proceed, Builtin, Jump, Try, Retry, Trust, CheckGround, CheckIndep, AllocParcall, PushGoal, WaitAll}
use Rattle.ap_instr.specs.declared.compiled.Predicate.{Predicate}
use Rattle.ap_instr.specs.Builtin.{builtin_arity}
use Rattle.ap_instr.specs.Code.{Compiled}
use Rattle.ap_codecheck.specs.declared.rule.Rule.{Rule}
use Rattle.ap_codecheck.specs.declared.rule.Rule.TheVariants.{Operand, Target, Unset, Environment, Argument, Group, End, Called}
use Rattle.ap_codecheck.specs.Shape.{Shape, is_set}
use Rattle.ap_codecheck.specs.Paths.{IsPlaceOf, Reaches, Awaits}

-- registers, permanent variables and the goals of a group are numbered from 1
abbrev pub IsNumbered : Slot → Type 0
IsNumbered (X n) = 0 < n
IsNumbered (Y n) = 0 < n

-- operands in range
abbrev pub InRange : Compiled → Instr → Type 0
InRange code (GetVariable v a) = IsNumbered v × (0 < a)
InRange code (GetValue v a) = IsNumbered v × (0 < a)
InRange code (GetConstant c a) = 0 < a
InRange code (GetInteger i a) = (i < length code.integers) × (0 < a)
InRange code (GetStructure f n a) = 0 < a
InRange code (PutVariable v a) = IsNumbered v × (0 < a)
InRange code (PutValue v a) = IsNumbered v × (0 < a)
InRange code (PutConstant c a) = 0 < a
InRange code (PutInteger i a) = (i < length code.integers) × (0 < a)
InRange code (PutStructure f n a) = 0 < a
InRange code (UnifyVariable v) = IsNumbered v
InRange code (UnifyValue v) = IsNumbered v
InRange code (UnifyInteger i) = i < length code.integers
InRange code (CheckGround v l) = IsNumbered v
InRange code (CheckIndep v w l) = IsNumbered v × IsNumbered w
InRange code (AllocParcall n l) = 0 < n
InRange code (PushGoal i q) = 0 < i
InRange code _ = Unit {0}

-- a jump, choice or check goes to an instruction of the same predicate
abbrev pub GoesInside : Compiled → Predicate → Instr → Type 0
GoesInside code p (Jump l) = IsPlaceOf code p l
GoesInside code p (Try l) = IsPlaceOf code p l
GoesInside code p (Retry l) = IsPlaceOf code p l
GoesInside code p (Trust l) = IsPlaceOf code p l
GoesInside code p (CheckGround v l) = IsPlaceOf code p l
GoesInside code p (CheckIndep v w l) = IsPlaceOf code p l
GoesInside code p _ = Unit {0}

abbrev pub IsSet : Shape → Slot → Type 0
IsSet s v = is_set s v ≡ true

abbrev pub arity_in : Option Predicate → ℕ
arity_in None = 0
arity_in (Some p) = p.arity

abbrev pub arity_of : Compiled → ℕ → ℕ
arity_of code q = arity_in (slice_get code.predicates q)

-- the registers of so many arguments are set
abbrev pub ArgumentsSet : ℕ → Shape → Type 0
ArgumentsSet n s = (a : ℕ) → 0 < a → a ≤ n → IsSet s (X a)

-- what the instruction reads is set
abbrev pub ReadsSet : Compiled → Instr → Shape → Type 0
ReadsSet code (GetVariable v a) s = IsSet s (X a)
ReadsSet code (GetValue v a) s = IsSet s v × IsSet s (X a)
ReadsSet code (GetConstant c a) s = IsSet s (X a)
ReadsSet code (GetInteger i a) s = IsSet s (X a)
ReadsSet code (GetStructure f n a) s = IsSet s (X a)
ReadsSet code (PutValue v a) s = IsSet s v
ReadsSet code (UnifyValue v) s = IsSet s v
ReadsSet code (Call q) s = ArgumentsSet (arity_of code q) s
ReadsSet code (Execute q) s = ArgumentsSet (arity_of code q) s
ReadsSet code (Builtin b) s = ArgumentsSet (builtin_arity b) s
ReadsSet code (CheckGround v l) s = IsSet s v
ReadsSet code (CheckIndep v w l) s = IsSet s v × IsSet s w
ReadsSet code (PushGoal i q) s = ArgumentsSet (arity_of code q) s
ReadsSet code _ s = Unit {0}

abbrev pub IsRoomFor : ℕ → Option ℕ → Type 0
IsRoomFor n None = ⊥
IsRoomFor n (Some m) = n ≤ m

-- a permanent variable is one of the environment
abbrev pub HasRoom : Slot → Shape → Type 0
HasRoom (X n) s = Unit {0}
HasRoom (Y n) s = IsRoomFor n s.room

-- Permanent variables lie inside `allocate` and `deallocate`, which match. A call and the end of a group lie inside, since
-- what stands behind them is come back to by the environment; a clause is left outside.
abbrev pub FitsEnvironment : Instr → Shape → Type 0
FitsEnvironment (GetVariable v a) s = HasRoom v s
FitsEnvironment (GetValue v a) s = HasRoom v s
FitsEnvironment (PutVariable v a) s = HasRoom v s
FitsEnvironment (PutValue v a) s = HasRoom v s
FitsEnvironment (UnifyVariable v) s = HasRoom v s
FitsEnvironment (UnifyValue v) s = HasRoom v s
FitsEnvironment (Allocate n) s = is_some s.room ≡ false
FitsEnvironment Deallocate s = is_some s.room ≡ true
FitsEnvironment (Call q) s = is_some s.room ≡ true
FitsEnvironment (CheckGround v l) s = HasRoom v s
FitsEnvironment (CheckIndep v w l) s = HasRoom v s × HasRoom w s
FitsEnvironment WaitAll s = is_some s.room ≡ true
FitsEnvironment (Execute q) s = is_some s.room ≡ false
FitsEnvironment Proceed s = is_some s.room ≡ false
FitsEnvironment _ s = Unit {0}

abbrev pub is_argument : Instr → Bool
is_argument (UnifyVariable v) = true
is_argument (UnifyValue v) = true
is_argument (UnifyConstant c) = true
is_argument (UnifyInteger i) = true
is_argument _ = false

-- argument instructions follow a structure, as many as it has arguments
abbrev pub IsInTurn : Instr → Shape → Type 0
IsInTurn i s = is_argument i ≡ nat_lt 0 s.pending

-- whether an instruction puts an argument, or a part of one
abbrev pub puts_argument : Instr → Bool
puts_argument (PutVariable v a) = true
puts_argument (PutValue v a) = true
puts_argument (PutConstant c a) = true
puts_argument (PutInteger i a) = true
puts_argument (PutStructure f n a) = true
puts_argument i = is_argument i

-- Inside of a group of so many goals, some of which were pushed, each goal is pushed in its turn, and the group ends behind
-- the last one; beside that arguments are put. Outside no goal is pushed and no group ends.
abbrev pub FitsGroup : Instr → Option (ℕ × ℕ) → Type 0
FitsGroup (PushGoal i q) None = ⊥
FitsGroup WaitAll None = ⊥
FitsGroup i None = Unit {0}
FitsGroup (PushGoal i q) (Some g) = (i ≡ g.1 + 1) × (i ≤ g.0)
FitsGroup WaitAll (Some g) = g.1 ≡ g.0
FitsGroup i (Some g) = puts_argument i ≡ true

-- A path goes on to its end: a jump or check leads forward, and no choice stands in a clause.
abbrev pub GoesOn : Instr → ℕ → Type 0
GoesOn (Jump l) at = at < l
GoesOn (CheckGround v l) at = at < l
GoesOn (CheckIndep v w l) at = at < l
GoesOn (Try l) at = ⊥
GoesOn (Retry l) at = ⊥
GoesOn (Trust l) at = ⊥
GoesOn _ at = Unit {0}

abbrev pub IsAlternative : Instr → Type 0
IsAlternative (Retry l) = Unit {0}
IsAlternative (Trust l) = Unit {0}
IsAlternative _ = ⊥

-- a predicate that is called, or is of a group's goal, is in the table
abbrev pub CallsKnown : Compiled → Instr → Type 0
CallsKnown code (Call q) = q < length code.predicates
CallsKnown code (Execute q) = q < length code.predicates
CallsKnown code (PushGoal i q) = q < length code.predicates
CallsKnown code _ = Unit {0}

-- a fact on the instruction at a place
abbrev pub At : Compiled → ℕ → (Instr → Type 0) → Type 0
At code at P = (i : Instr) → slice_get code.instructions at ≡ Some i → P i

-- The rule is kept by a predicate's instruction at a place, on every path to it. A path, a choice that isn't the last one,
-- and a call come to a place where an instruction of the predicate stands.
abbrev pub KeepsIn : Rule → Compiled → Predicate → ℕ → Type 0
KeepsIn Operand code p at = IsPlaceOf code p at → At code at (InRange code)
KeepsIn Target code p at = IsPlaceOf code p at → At code at (GoesInside code p)
KeepsIn Called code p at = IsPlaceOf code p at → At code at (CallsKnown code)
KeepsIn Unset code p at = (s : Shape) → Reaches code p at s → At code at (λ i. ReadsSet code i s)
KeepsIn Environment code p at = (s : Shape) → Reaches code p at s → At code at (λ i. FitsEnvironment i s)
KeepsIn Argument code p at = (s : Shape) → Reaches code p at s → At code at (λ i. IsInTurn i s)
KeepsIn Group code p at = (s : Shape) → Reaches code p at s → At code at (λ i. FitsGroup i s.group)
KeepsIn End code p at =
    ((s : Shape) → Reaches code p at s → IsPlaceOf code p at × At code at (λ i. GoesOn i at))
    × (Awaits code p at → IsPlaceOf code p at × At code at IsAlternative)
    × (at ≡ p.start → IsPlaceOf code p at)

-- The rule is kept at a place. The query is called from outside, which counts as a call behind the last instruction.
pub record Keeps (rule : Rule) (code : Compiled) (at : ℕ) : Type 0 where
  pub each : (number : ℕ) (p : Predicate) → slice_get code.predicates number ≡ Some p → KeepsIn rule code p at
  pub query : rule ≡ Called → at ≡ length code.instructions → IfSome code.query (λ q. q < length code.predicates)

-- no place breaks a rule
abbrev pub IsSound : Compiled → Type 0
IsSound code = (rule : Rule) (at : ℕ) → Keeps rule code at
