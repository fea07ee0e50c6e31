-- What an index says of code.
use Rattle.std.specs.Prelude.{◌≡◌, ℕ, true, false, ◌==◌, if◌then◌else◌, List, [], ◌∷◌, ◌++◌, drop, slice_get, get_or, Option, Some, None}
use Rattle.std.specs.List.{AllByRecursion}
use Rattle.ap_instr.specs.declared.instruction.Instr.{Instr}
use Rattle.ap_instr.specs.declared.instruction.Instr.TheVariants.{Try}
use Rattle.ap_instr.specs.Code.{Compiled}
use Rattle.ap_instr.specs.StandsFor.{tried}
use Rattle.ap_index.specs.declared.key.Key.{Key}
use Rattle.ap_index.specs.declared.row.Row.{Row}
use Rattle.ap_index.specs.declared.row.TheConstants.{NONE}
use Rattle.ap_index.specs.declared.row.Link.{Link}
use Rattle.ap_index.specs.declared.rows.Entry.{Entry}
use Rattle.ap_index.specs.declared.rows.Entry.TheVariants.{Nothing, Begins, Rest, Behind}
use Rattle.ap_index.specs.declared.rows.Rows.{Rows}
use Rattle.ap_index.specs.declared.choice.Named.{Named}
use Rattle.ap_index.specs.declared.choice.Next.{Next}
use Rattle.ap_index.specs.declared.choice.Next.TheVariants.{Any, Row as RowNext, Linked}
use Rattle.ap_index.specs.declared.choice.Choice.{Choice}
use Rattle.ap_index.specs.declared.index.Index.{Index}
use Rattle.ap_index.specs.Keys.{same_key, key_at}
use Rattle.ap_index.specs.Hashing.{slot_of}
use Rattle.ap_index.specs.Heads.{IsHeadOf}
use Rattle.ap_index.specs.Pairs.{ArePairsOf}
use Rattle.ap_index.specs.Words.{IsShortOf}

-- the clause at a place asks for another first argument
pub record AsksOther (code : Compiled) (key : Key) (at : ℕ) : Type 0 where
  pub asked : Key
  pub asks : key_at code at ≡ Some asked
  pub other : same_key asked key ≡ false

-- of some clauses' places these are left; the clauses at those before them ask for another first argument
pub record LeavesOthers (code : Compiled) (key : Key) (ls rest : List ℕ) : Type 0 where
  pub passed : List ℕ
  pub are : ls ≡ passed ++ rest
  pub others : AllByRecursion (AsksOther code key) passed

-- of some clauses' places one is left, and the clauses at all others ask for another first argument
pub record LeavesOne (code : Compiled) (key : Key) (ls : List ℕ) (one : ℕ) : Type 0 where
  pub behind : List ℕ
  pub leads : LeavesOthers code key ls (one ∷ behind)
  pub others : LeavesOthers code key behind []

-- the clauses that are named behind a `try`, from a choice on
abbrev pub tried_from : Compiled → Option ℕ → List ℕ
tried_from code None = []
tried_from code (Some at) = tried (drop at code.instructions)

-- the clauses that choices name, the first of which may be a `try`
abbrev pub named : List Instr → List ℕ
named (Try l ∷ is) = l ∷ tried is
named is = tried is

-- those from a choice on
abbrev pub named_from : Compiled → Option ℕ → List ℕ
named_from code None = []
named_from code (Some at) = named (drop at code.instructions)

-- a place, if it is one
abbrev pub place_or_none : ℕ → Option ℕ
place_or_none at = if at == NONE then None else Some at

-- what a row has in a slot
abbrev pub in_slot : Row → ℕ → Option ℕ
in_slot r slot = place_or_none (get_or r.slots.items slot NONE)

-- the first choice for a key
abbrev pub first_for : Row → Key → Option ℕ
first_for r key = in_slot r (slot_of key r.count)

-- the clause that alone is left for a key, as far as the row tells
abbrev pub only_for : Row → Key → Option ℕ
only_for r key = place_or_none (get_or r.onlys.items (slot_of key r.count) NONE)

-- one clause before those of a choice: it alone is left where there is no such choice
abbrev pub only_before : Option ℕ → ℕ → Option ℕ
only_before None clause = place_or_none clause
only_before (Some at) clause = None

-- a row of a predicate's choices, as far as it was filled: from a place behind the `try` on
pub record IsFilled (code : Compiled) (from : ℕ) (r : Row) : Type 0 where
  pub leads : (key : Key) → LeavesOthers code key (tried_from code (Some from)) (tried_from code (first_for r key))
  pub behind_try : (key : Key) → named_from code (first_for r key) ≡ tried_from code (first_for r key)
  pub alone : (key : Key) (one : ℕ) → only_for r key ≡ Some one → LeavesOne code key (tried_from code (Some from)) one

-- the choices of a predicate begin at a place with a row
pub record IsRowOf (code : Compiled) (start : ℕ) (r : Row) : Type 0 where
  pub clause : ℕ
  pub begins : slice_get code.instructions start ≡ Some (Try clause)
  pub leads : (key : Key) → LeavesOthers code key (named_from code (Some start)) (named_from code (first_for r key))
  pub alone : (key : Key) (one : ℕ) → only_for r key ≡ Some one → LeavesOne code key (named_from code (Some start)) one
  pub pairs : ArePairsOf code (named_from code (Some start)) r.pairs

-- they go on at a place with a row
abbrev pub IsRestOf : Compiled → ℕ → Row → Type 0
IsRestOf code from r = (key : Key) → LeavesOthers code key (tried_from code (Some from)) (tried_from code (first_for r key))

abbrev pub IsLinkOf : Compiled → ℕ → Link → Type 0
IsLinkOf code from l = (key : Key) → slot_of key l.count ≡ l.slot → LeavesOthers code key (tried_from code (Some from)) (tried_from code l.next)

-- what an entry for a place says
abbrev pub IsEntryOf : Compiled → List Row → List Link → ℕ → Entry → Type 0
IsEntryOf code rows links from Nothing = Unit {0}
IsEntryOf code rows links from (Begins number) = (r : Row) × (slice_get rows number ≡ Some r) × IsRowOf code from r
IsEntryOf code rows links from (Rest number) = (r : Row) × (slice_get rows number ≡ Some r) × IsRestOf code from r
IsEntryOf code rows links from (Behind number) = (l : Link) × (slice_get links number ≡ Some l) × IsLinkOf code from l

-- rows of the code's choices, and links between those
pub record AreRowsOf (code : Compiled) (r : Rows) : Type 0 where
  pub entries : (from : ℕ) → IsEntryOf code r.rows.items r.links.items from (get_or r.entries.items from Nothing)

-- The choice at the place names this clause and those from there on. The first one is a `try`.
pub record IsNamedBy (code : Compiled) (at : ℕ) (n : Named) : Type 0 where
  pub names : named_from code (Some at) ≡ n.place ∷ tried_from code n.behind
  pub begins : n.is_first ≡ true → slice_get code.instructions at ≡ Some (Try n.place)
  pub goes_on : n.is_first ≡ false → named_from code (Some at) ≡ tried_from code (Some at)

-- what is known of the choices behind one
abbrev pub IsNextOf : Compiled → Option ℕ → Next → Type 0
IsNextOf code behind Any = Unit {0}
IsNextOf code behind RowNext = Unit {0}
IsNextOf code behind (Linked l) = (from : ℕ) → behind ≡ Some from → IsLinkOf code from l

-- what is known of a choice
pub record IsChoiceOf (code : Compiled) (c : Choice) : Type 0 where
  pub named : IsNamedBy code c.at c.named
  pub head : IsHeadOf code c.named.place c.head
  pub short : IsShortOf c.head.asks.items c.short
  pub next : IsNextOf code c.named.behind c.next

-- and that it stands at a place
pub record IsChoiceAt (code : Compiled) (at : ℕ) (c : Choice) : Type 0 where
  pub at_it : c.at ≡ at
  pub is : IsChoiceOf code c

-- an index of the code
pub record IsIndexOf (code : Compiled) (i : Index) : Type 0 where
  pub rows : AreRowsOf code i.rows
  pub choices : (n : ℕ) (c : Choice) → slice_get i.choices.items n ≡ Some c → IsChoiceOf code c
