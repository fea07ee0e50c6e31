-- What a clause asks of its first argument.
use Rattle.std.specs.Prelude.{◌≡◌, ℕ, ℤ, Bool, true, false, not, ◌==◌, ◌&&◌, if◌then◌else◌, List, [], ◌∷◌, drop, slice_get, Option, Some, None}
use Rattle.std.specs.Ordering.{int_eq}
use Rattle.ap_term.specs.Tree.{Tree, Trees, atom, int, node, count_trees}
use Rattle.ap_instr.specs.declared.instruction.Instr.{Instr}
use Rattle.ap_instr.specs.declared.instruction.Instr.TheVariants.{GetConstant, GetInteger, GetStructure, Allocate}
use Rattle.ap_instr.specs.Code.{Compiled}
use Rattle.ap_index.specs.declared.key.Key.{Key}
use Rattle.ap_index.specs.declared.key.Key.TheVariants.{Atom, Integer, Structure}
use Rattle.ap_index.specs.declared.key.Keyed.{Keyed}

abbrev pub same_key : Key → Key → Bool
same_key (Atom a) (Atom b) = a == b
same_key (Integer a) (Integer b) = int_eq a b
same_key (Structure f n) (Structure g m) = (f == g) && (n == m)
same_key _ _ = false

abbrev pub integer_key : Option ℤ → Option Key
integer_key None = None
integer_key (Some z) = Some (Integer z)

-- whether an instruction asks nothing of the first argument, and leaves it where it is
abbrev pub leaves_first : Instr → Bool
leaves_first (GetConstant c a) = not (a == 1)
leaves_first (GetInteger i a) = not (a == 1)
leaves_first (Allocate n) = true
leaves_first _ = false

-- what an instruction asks of the first argument
abbrev pub asked_key : Compiled → Instr → Option Key
asked_key code (GetConstant c a) = if a == 1 then Some (Atom c) else None
asked_key code (GetInteger i a) = if a == 1 then integer_key (slice_get code.integers i) else None
asked_key code (GetStructure f n a) = if a == 1 then Some (Structure f n) else None
asked_key code _ = None

-- what instructions ask of the first argument, up to the first one that does more than to test an argument
abbrev pub first_key : Compiled → List Instr → Option Key
first_key code [] = None
first_key code (i ∷ is) = if leaves_first i then first_key code is else asked_key code i

-- what the clause at a place asks of the first argument
abbrev pub key_at : Compiled → ℕ → Option Key
key_at code at = first_key code (drop at code.instructions)

-- a tree of which this is the key
abbrev pub IsKeyOf : Key → Tree → Type 0
IsKeyOf (Atom a) t = t ≡ atom a
IsKeyOf (Integer z) t = t ≡ int z
IsKeyOf (Structure f n) t = (ts : Trees) × (count_trees ts ≡ n) × (t ≡ node f ts)

-- a choice stands at the place, made of a clause's place in that way, and the clause asks for a key
pub record IsKeyed (code : Compiled) (at : ℕ) (choice : ℕ → Instr) (k : Keyed) : Type 0 where
  pub names : slice_get code.instructions at ≡ Some (choice k.clause)
  pub asks : key_at code k.clause ≡ Some k.key
