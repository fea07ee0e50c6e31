-- What is left of clauses for keys of two arguments.
use Rattle.std.specs.Prelude.{◌≡◌, ℕ, ◌<◌, ◌⊎◌, false, List, [], ◌∷◌, ◌++◌, length, get_or}
use Rattle.std.specs.List.{AllByRecursion}
use Rattle.ap_instr.specs.Code.{Compiled}
use Rattle.ap_index.specs.declared.key.Key.{Key}
use Rattle.ap_index.specs.declared.row.Pair.{Pair}
use Rattle.ap_index.specs.declared.row.Pair.TheVariants.{Never, Only, Open}
use Rattle.ap_index.specs.declared.row.Pairs.{Pairs}
use Rattle.ap_index.specs.Keys.{same_key}
use Rattle.ap_index.specs.Heads.{AreNeeded}
use Rattle.ap_index.specs.Hashing.{pair_slot}

-- the clause at a place of the code can be entered only where an argument has another key
pub record AsksOtherOf (code : Compiled) (argument : ℕ) (key : Key) (at : ℕ) : Type 0 where
  pub own : at < length code.instructions
  pub asked : Key
  pub needed : AreNeeded code at (record { argument = argument; key = asked } ∷ [])
  pub other : same_key asked key ≡ false

-- where the first argument has another key, or another argument
abbrev pub AsksOtherPair : Compiled → ℕ → Key → Key → ℕ → Type 0
AsksOtherPair code argument one two at = AsksOtherOf code 1 one at ⊎ AsksOtherOf code argument two at

-- of some clauses' places one is left, and the clauses at all others ask for other keys
pub record LeavesOnePair (code : Compiled) (argument : ℕ) (one two : Key) (ls : List ℕ) (at : ℕ) : Type 0 where
  pub before : List ℕ
  pub behind : List ℕ
  pub are : ls ≡ before ++ at ∷ behind
  pub others_before : AllByRecursion (AsksOtherPair code argument one two) before
  pub others_behind : AllByRecursion (AsksOtherPair code argument one two) behind

-- what is left of some clauses' places for two keys
abbrev pub IsPairOf : Compiled → ℕ → Key → Key → List ℕ → Pair → Type 0
IsPairOf code argument one two ls Never = AllByRecursion (AsksOtherPair code argument one two) ls
IsPairOf code argument one two ls (Only at) = LeavesOnePair code argument one two ls at
IsPairOf code argument one two ls Open = Unit {0}

-- one clause before some: it alone is left where none was
abbrev pub pair_before : ℕ → Pair → Pair
pair_before clause Never = Only clause
pair_before clause _ = Open

-- what stands in the slot of two keys
abbrev pub pair_for : Pairs → Key → Key → Pair
pair_for p one two = get_or p.slots.items (pair_slot one two p.count) Open

-- what is left of some clauses' places
abbrev pub ArePairsOf : Compiled → List ℕ → Pairs → Type 0
ArePairsOf code ls p = (one two : Key) → IsPairOf code p.argument one two ls (pair_for p one two)
