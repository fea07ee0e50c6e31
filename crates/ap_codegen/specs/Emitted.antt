-- What the instructions of a clause say, before they have numbers of tables.
use Rattle.std.specs.Prelude.{ℕ, List, map}
use Rattle.ap_term.specs.Tree.{atom, int}
use Rattle.ap_instr.specs.Step.{Step, get_variable, get_value, get_constant, get_structure, put_variable, put_value, put_constant, put_structure, unify_variable, unify_value, unify_constant, call, execute, builtin, proceed, frame, jump, check_ground, check_indep, group, push, wait}
use Rattle.ap_instr.specs.Builtin.{builtin_name, builtin_arity}
use Rattle.ap_codegen.specs.declared.steps.Step.{Step as Emitted}
use Rattle.ap_codegen.specs.declared.steps.Step.TheVariants.{GetVariable, GetValue, GetConstant, GetInteger, GetStructure, PutVariable, PutValue, PutConstant, PutInteger, PutStructure, UnifyVariable, UnifyValue, UnifyConstant, UnifyInteger, Call, Execute, Builtin, Proceed, Allocate, Deallocate, Jump, CheckGround, CheckIndep, AllocParcall, PushGoal, WaitAll}

abbrev pub step_of : Emitted → Step
step_of (GetVariable v a) = get_variable v a
step_of (GetValue v a) = get_value v a
step_of (GetConstant c a) = get_constant (atom c) a
step_of (GetInteger z a) = get_constant (int z) a
step_of (GetStructure f n a) = get_structure f n a
step_of (PutVariable v a w) = put_variable v a
step_of (PutValue v a) = put_value v a
step_of (PutConstant c a) = put_constant (atom c) a
step_of (PutInteger z a) = put_constant (int z) a
step_of (PutStructure f n a) = put_structure f n a
step_of (UnifyVariable v) = unify_variable v
step_of (UnifyValue v) = unify_value v
step_of (UnifyConstant c) = unify_constant (atom c)
step_of (UnifyInteger z) = unify_constant (int z)
step_of (Call p n) = call p n
step_of (Execute p n) = execute p n
step_of (Builtin b) = builtin (builtin_name b) (builtin_arity b)
step_of Proceed = proceed
step_of (Allocate n) = frame
step_of Deallocate = frame
step_of (Jump n) = jump
step_of (CheckGround v n) = check_ground v
step_of (CheckIndep v w n) = check_indep v w
step_of (AllocParcall n l) = group n
step_of (PushGoal i p n) = push p n
step_of WaitAll = wait

abbrev pub steps_of : List Emitted → List Step
steps_of es = map step_of es

-- how many instructions behind the next one a jump, a check or a group's first step passes over
abbrev pub label_of : Emitted → ℕ
label_of (Jump n) = n
label_of (CheckGround v n) = n
label_of (CheckIndep v w n) = n
label_of (AllocParcall n l) = l
label_of _ = 0

-- a step with how many steps behind the next one it passes over, where it is a jump, a check that doesn't hold, or the first one of
-- a group whose goals are called one after another
abbrev pub Lead : Type 0
Lead = Step × ℕ

abbrev pub lead_of : Emitted → Lead
lead_of e = (step_of e, label_of e)

abbrev pub leads_of : List Emitted → List Lead
leads_of es = map lead_of es
