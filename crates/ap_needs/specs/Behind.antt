-- Code that goes on behind other code.
use Rattle.std.specs.Prelude.{◌≡◌, ℕ, ◌+◌, ◌<◌, Bool, true, false, List, [], ◌∷◌, length, take, slice_get, Some}
use Rattle.ap_instr.specs.declared.instruction.Instr.{Instr}
use Rattle.ap_instr.specs.declared.instruction.Instr.TheVariants.{GetInteger, GetStructure, PutInteger, UnifyInteger, Call, Execute, Proceed, Jump, Try, Retry, Trust, PushGoal}
use Rattle.ap_instr.specs.Code.{Compiled}

-- longer code begins with it
pub record Begins (code longer : Compiled) : Type 0 where
  pub instructions : take (length code.instructions) longer.instructions ≡ code.instructions
  pub integers : take (length code.integers) longer.integers ≡ code.integers
  pub predicates : take (length code.predicates) longer.predicates ≡ code.predicates

-- an instruction at which a clause ends, so that nothing behind it is come to
abbrev pub is_end : Instr → Bool
is_end (Execute q) = true
is_end Proceed = true
is_end _ = false

-- the last of the instructions is one, if there is a last one
abbrev pub is_ended : List Instr → Bool
is_ended [] = true
is_ended (i ∷ []) = is_end i
is_ended (i ∷ (j ∷ is)) = is_ended (j ∷ is)

-- the instruction at a place names integers, predicates and places of the code alone, and a structure's arguments stand in it
abbrev pub NamesOwn : Compiled → ℕ → Instr → Type 0
NamesOwn code at (GetInteger i a) = i < length code.integers
NamesOwn code at (GetStructure f n a) = at + n < length code.instructions
NamesOwn code at (PutInteger i a) = i < length code.integers
NamesOwn code at (UnifyInteger i) = i < length code.integers
NamesOwn code at (Call q) = q < length code.predicates
NamesOwn code at (Execute q) = q < length code.predicates
NamesOwn code at (Jump l) = l < length code.instructions
NamesOwn code at (Try l) = l < length code.instructions
NamesOwn code at (Retry l) = l < length code.instructions
NamesOwn code at (Trust l) = l < length code.instructions
NamesOwn code at (PushGoal i q) = q < length code.predicates
NamesOwn code at _ = Unit {0}

-- what is known of its places stays so whatever code goes on behind it
pub record StandsAlone (code : Compiled) : Type 0 where
  pub names : (at : ℕ) (i : Instr) → slice_get code.instructions at ≡ Some i → NamesOwn code at i
  pub ended : is_ended code.instructions ≡ true
