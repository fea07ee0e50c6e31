-- An instruction as it is listed, and the texts of what stands in it.
use Rattle.std.specs.Prelude.{ℕ, ℤ, ◌-◌, List, [], ◌∷◌, ◌++◌, codes, slice_get, Option, Some, None, if◌then◌else◌, ◌==◌, ◌&&◌}
use Rattle.std.specs.Str.{bytes_eq}
use Rattle.std.specs.Fmt.{decimal, signed_decimal}
use Rattle.ap_writer.specs.Quoted.{name_text}
use Rattle.ap_writer.specs.Text.{name_at}
use Rattle.ap_instr.specs.declared.instruction.Slot.{Slot}
use Rattle.ap_instr.specs.declared.instruction.Slot.TheVariants.{X, Y}
use Rattle.ap_instr.specs.declared.instruction.Instr.{Instr}
use Rattle.ap_instr.specs.declared.instruction.Instr.TheVariants.{GetVariable, GetValue, GetConstant, GetInteger, GetStructure, PutVariable, PutValue, PutConstant, PutInteger, PutStructure, UnifyVariable, UnifyValue, UnifyConstant, UnifyInteger, Allocate, Deallocate, Call, Execute, Proceed, Builtin, Jump, Fail, Try, Retry, Trust, CheckGround, CheckIndep, AllocParcall, PushGoal, WaitAll}
use Rattle.ap_instr.specs.declared.compiled.Predicate.{Predicate}
use Rattle.ap_instr.specs.Builtin.{builtin_name}
use Rattle.ap_instr.specs.Code.{Compiled}

-- what an operand is of
pub data Operand : Type 0 where
  register : Slot → Operand
  argument : ℕ → Operand
  constant : ℕ → Operand
  integer : ℕ → Operand
  functor : ℕ → ℕ → Operand
  number : ℕ → Operand
  predicate : ℕ → Operand
  place : ℕ → Operand

abbrev pub register_text : Slot → List ℕ
register_text (X n) = codes "X" ++ decimal n
register_text (Y n) = codes "Y" ++ decimal n

abbrev pub functor_text : List (List ℕ) → ℕ → ℕ → List ℕ
functor_text names a n = name_text (name_at names a) ++ (codes "/" ++ decimal n)

abbrev pub predicate_text : List (List ℕ) → Option Predicate → List ℕ
predicate_text names None = []
predicate_text names (Some p) = functor_text names p.name p.arity

abbrev pub integer_text : Option ℤ → List ℕ
integer_text None = []
integer_text (Some z) = signed_decimal z

-- An operand of an instruction of a predicate that starts at a place. What the code's tables don't hold is left empty.
abbrev pub operand_text : List (List ℕ) → Compiled → ℕ → Operand → List ℕ
operand_text names code start (register v) = register_text v
operand_text names code start (argument a) = codes "A" ++ decimal a
operand_text names code start (constant c) = name_text (name_at names c)
operand_text names code start (integer i) = integer_text (slice_get code.integers i)
operand_text names code start (functor f n) = functor_text names f n
operand_text names code start (number n) = decimal n
operand_text names code start (predicate p) = predicate_text names (slice_get code.predicates p)
operand_text names code start (place l) = codes "@" ++ decimal (l - start)

-- an instruction as it is listed: its word and its operands
pub record Shown : Type 0 where
  pub word : List ℕ
  pub operands : List Operand

abbrev pub shown : List ℕ → List Operand → Shown
shown word operands = record { word = word; operands = operands }

-- a structure's instruction; a list's cell has one of its own
abbrev pub structure : List (List ℕ) → List ℕ → List ℕ → ℕ → ℕ → ℕ → Shown
structure names list other f n a =
    if bytes_eq (name_at names f) (codes ".") && (n == 2) then shown list (argument a ∷ []) else shown other (functor f n ∷ argument a ∷ [])

abbrev pub shown_instruction : List (List ℕ) → Instr → Shown
shown_instruction names (GetVariable v a) = shown (codes "get_variable") (register v ∷ argument a ∷ [])
shown_instruction names (GetValue v a) = shown (codes "get_value") (register v ∷ argument a ∷ [])
shown_instruction names (GetConstant c a) = shown (codes "get_constant") (constant c ∷ argument a ∷ [])
shown_instruction names (GetInteger i a) = shown (codes "get_integer") (integer i ∷ argument a ∷ [])
shown_instruction names (GetStructure f n a) = structure names (codes "get_list") (codes "get_structure") f n a
shown_instruction names (PutVariable v a) = shown (codes "put_variable") (register v ∷ argument a ∷ [])
shown_instruction names (PutValue v a) = shown (codes "put_value") (register v ∷ argument a ∷ [])
shown_instruction names (PutConstant c a) = shown (codes "put_constant") (constant c ∷ argument a ∷ [])
shown_instruction names (PutInteger i a) = shown (codes "put_integer") (integer i ∷ argument a ∷ [])
shown_instruction names (PutStructure f n a) = structure names (codes "put_list") (codes "put_structure") f n a
shown_instruction names (UnifyVariable v) = shown (codes "unify_variable") (register v ∷ [])
shown_instruction names (UnifyValue v) = shown (codes "unify_value") (register v ∷ [])
shown_instruction names (UnifyConstant c) = shown (codes "unify_constant") (constant c ∷ [])
shown_instruction names (UnifyInteger i) = shown (codes "unify_integer") (integer i ∷ [])
shown_instruction names (Allocate n) = shown (codes "allocate") (number n ∷ [])
shown_instruction names Deallocate = shown (codes "deallocate") []
shown_instruction names (Call p) = shown (codes "call") (predicate p ∷ [])
shown_instruction names (Execute p) = shown (codes "execute") (predicate p ∷ [])
shown_instruction names Proceed = shown (codes "proceed") []
shown_instruction names (Builtin b) = shown (codes "builtin") (constant (builtin_name b) ∷ [])
shown_instruction names (Jump l) = shown (codes "jump") (place l ∷ [])
shown_instruction names Fail = shown (codes "fail") []
shown_instruction names (Try l) = shown (codes "try") (place l ∷ [])
shown_instruction names (Retry l) = shown (codes "retry") (place l ∷ [])
shown_instruction names (Trust l) = shown (codes "trust") (place l ∷ [])
shown_instruction names (CheckGround v l) = shown (codes "check_ground") (register v ∷ place l ∷ [])
shown_instruction names (CheckIndep v w l) = shown (codes "check_indep") (register v ∷ register w ∷ place l ∷ [])
shown_instruction names (AllocParcall n l) = shown (codes "alloc_parcall") (number n ∷ [])
shown_instruction names (PushGoal i p) = shown (codes "push_goal") (number i ∷ predicate p ∷ [])
shown_instruction names WaitAll = shown (codes "wait_all") []
