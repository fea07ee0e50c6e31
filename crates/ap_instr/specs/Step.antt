-- What instructions say, with what they name numbers of put in its place.
use Rattle.std.specs.Prelude.{ℕ, ℤ, List, map, slice_get, Option, Some, None}
use Rattle.ap_term.specs.Tree.{Tree, atom, int}
use Rattle.ap_instr.specs.declared.instruction.Slot.{Slot}
use Rattle.ap_instr.specs.declared.instruction.Instr.{Instr}
use Rattle.ap_instr.specs.declared.instruction.Instr.TheVariants.{GetVariable, GetValue, GetConstant, GetInteger, GetStructure, PutVariable, PutValue, PutConstant, PutInteger, PutStructure, UnifyVariable, UnifyValue, UnifyConstant, UnifyInteger, Allocate, Deallocate, Call, Execute, Proceed, Builtin, Jump, Fail, Try, Retry, Trust, CheckGround, CheckIndep, AllocParcall, PushGoal, WaitAll}
use Rattle.ap_instr.specs.declared.compiled.Predicate.{Predicate}
use Rattle.ap_instr.specs.Builtin.{builtin_name, builtin_arity}
use Rattle.ap_instr.specs.Code.{Compiled}

-- an instruction of a clause; a constant is an atom or an integer, a call has its predicate's name and arity
pub data Step : Type 0 where
  get_variable : Slot → ℕ → Step
  get_value : Slot → ℕ → Step
  get_constant : Tree → ℕ → Step
  get_structure : ℕ → ℕ → ℕ → Step
  put_variable : Slot → ℕ → Step
  put_value : Slot → ℕ → Step
  put_constant : Tree → ℕ → Step
  put_structure : ℕ → ℕ → ℕ → Step
  unify_variable : Slot → Step
  unify_value : Slot → Step
  unify_constant : Tree → Step
  call : ℕ → ℕ → Step
  execute : ℕ → ℕ → Step
  builtin : ℕ → ℕ → Step
  proceed : Step
  -- an environment is made or given back
  frame : Step
  -- the code goes on elsewhere
  jump : Step
  -- checks of a group, of what they are asked; so many goals of a group begin; one of them; their end
  check_ground : Slot → Step
  check_indep : Slot → Slot → Step
  group : ℕ → Step
  push : ℕ → ℕ → Step
  wait : Step
  -- no instruction of a clause
  other : Step

-- a step with an integer of the table, where it is there
abbrev pub with_integer : Option ℤ → (Tree → Step) → Step
with_integer None f = other
with_integer (Some z) f = f (int z)

abbrev pub with_predicate : Option Predicate → (ℕ → ℕ → Step) → Step
with_predicate None f = other
with_predicate (Some p) f = f p.name p.arity

abbrev pub step_of : Compiled → Instr → Step
step_of code (GetVariable v a) = get_variable v a
step_of code (GetValue v a) = get_value v a
step_of code (GetConstant c a) = get_constant (atom c) a
step_of code (GetInteger i a) = with_integer (slice_get code.integers i) (λ c. get_constant c a)
step_of code (GetStructure f n a) = get_structure f n a
step_of code (PutVariable v a) = put_variable v a
step_of code (PutValue v a) = put_value v a
step_of code (PutConstant c a) = put_constant (atom c) a
step_of code (PutInteger i a) = with_integer (slice_get code.integers i) (λ c. put_constant c a)
step_of code (PutStructure f n a) = put_structure f n a
step_of code (UnifyVariable v) = unify_variable v
step_of code (UnifyValue v) = unify_value v
step_of code (UnifyConstant c) = unify_constant (atom c)
step_of code (UnifyInteger i) = with_integer (slice_get code.integers i) unify_constant
step_of code (Allocate n) = frame
step_of code Deallocate = frame
step_of code (Call p) = with_predicate (slice_get code.predicates p) call
step_of code (Execute p) = with_predicate (slice_get code.predicates p) execute
step_of code Proceed = proceed
step_of code (Builtin b) = builtin (builtin_name b) (builtin_arity b)
step_of code (Jump l) = jump
step_of code Fail = other
step_of code (Try l) = other
step_of code (Retry l) = other
step_of code (Trust l) = other
step_of code (CheckGround v l) = check_ground v
step_of code (CheckIndep v w l) = check_indep v w
step_of code (AllocParcall n l) = group n
step_of code (PushGoal i p) = with_predicate (slice_get code.predicates p) push
step_of code WaitAll = wait

abbrev pub steps_of : Compiled → List Instr → List Step
steps_of code is = map (step_of code) is
