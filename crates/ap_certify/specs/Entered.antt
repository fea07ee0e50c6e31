-- The queries with which a program is entered.
use Rattle.std.specs.Prelude.{◌≡◌, ◌⊎◌, IsTrue, [], ◌∷◌, Some}
use Rattle.ap_term.specs.declared.fixed.TheConstants.{QUERY}
use Rattle.ap_term.specs.Tree.{Tree, atom}
use Rattle.ap_term.specs.WellFormed.{callable}
use Rattle.ap_term.specs.Goals.{Program}
use Rattle.ap_patterns.specs.declared.entries.Entries.{Entries}
use Rattle.ap_patterns.specs.declared.entries.Entries.TheVariants.{All, One, Query}
use Rattle.ap_patterns.specs.Entry.{AsMarked}
use Rattle.ap_patterns.specs.Places.{arguments}
use Rattle.ap_patterns.specs.Table.{predicate_of}

-- a clause's head has the goal's predicate
abbrev pub HasClause : Program → Tree → Type 0
HasClause [] goal = ⊥
HasClause (c ∷ cs) goal = (predicate_of c.head ≡ predicate_of goal) ⊎ HasClause cs goal

-- a call as the entries have it
abbrev pub IsEntered : Program → Entries → Tree → Type 0
IsEntered p All goal = IsTrue (callable goal) × HasClause p goal
IsEntered p (One e) goal = IsTrue (callable goal) × (predicate_of goal ≡ Some e.predicate) × AsMarked e.marks.items (arguments goal)
IsEntered p Query goal = goal ≡ atom QUERY
