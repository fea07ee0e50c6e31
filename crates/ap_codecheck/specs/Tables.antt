-- What is known of code by its places, and what of it stays known in code that goes on behind it.
use Rattle.std.specs.Prelude.{◌≡◌, ℕ, Bool, true, ◌&&◌, length, take, None}
use Rattle.ap_instr.specs.Code.{Compiled}
use Rattle.ap_needs.specs.Needs.{IsRoomOf, AreWidthsOf}
use Rattle.ap_needs.specs.Behind.{Begins, StandsAlone}
use Rattle.ap_index.specs.Index.{IsIndexOf}
use Rattle.ap_index.specs.Within.{is_index_within}
use Rattle.ap_direct.specs.Table.{AreGoalsOf, stay_within}
use Rattle.ap_codecheck.specs.declared.tables.Tables.{Tables}
use Rattle.ap_codecheck.specs.declared.tables.Extent.{Extent}
use Rattle.ap_codecheck.specs.declared.tables.Mark.{Mark}
use Rattle.ap_codecheck.specs.declared.tables.KeptTables.{KeptTables}

-- what the tables say is so of the code
pub record AreTablesOf (code : Compiled) (t : Tables) : Type 0 where
  pub index : IsIndexOf code t.index
  pub room : IsRoomOf code t.room
  pub widths : AreWidthsOf code t.widths
  pub directs : AreGoalsOf code t.directs

-- all places that they name stand before one
abbrev pub are_within : ℕ → Tables → Bool
are_within n t = is_index_within n t.index && stay_within n t.directs

-- tables of code that other code can go on behind
pub record AreKeptOf (code : Compiled) (t : Tables) : Type 0 where
  pub alone : StandsAlone code
  pub tables : AreTablesOf code t
  pub within : are_within (length code.instructions) t ≡ true

-- it goes on behind code of no query
pub record GoesOnBehind (code base : Compiled) : Type 0 where
  pub begins : Begins base code
  pub query : base.query ≡ None

-- how long the code is
pub record IsExtentOf (code : Compiled) (e : Extent) : Type 0 where
  pub instructions : e.instructions ≡ length code.instructions
  pub integers : e.integers ≡ length code.integers
  pub predicates : e.predicates ≡ length code.predicates

pub record IsKeptOf (code : Compiled) (k : KeptTables) : Type 0 where
  pub tables : AreKeptOf code k.tables
  pub extent : IsExtentOf code k.extent

-- how far the tables of code so long have come
pub record IsMarkOf (t : Tables) (e : Extent) (m : Mark) : Type 0 where
  pub extent : m.extent ≡ e
  pub choices : m.choices ≡ length t.index.choices.items
  pub cells : m.cells ≡ t.room.cells
  pub places : m.places ≡ length t.room.wanting.items
  pub widths : m.widths ≡ t.widths
  pub goals : m.goals ≡ length t.directs.goals.items

-- cut back to the mark, the tables are those of before
pub record LeadsBack (m : Mark) (before now : Tables) : Type 0 where
  pub rows : now.index.rows ≡ before.index.rows
  pub choices : take m.choices now.index.choices.items ≡ before.index.choices.items
  pub cells : m.cells ≡ before.room.cells
  pub wanting : take m.places now.room.wanting.items ≡ before.room.wanting.items
  pub widths : m.widths ≡ before.widths
  pub goals : take m.goals now.directs.goals.items ≡ before.directs.goals.items

-- they were cut back to it
pub record IsCutTo (m : Mark) (now cut : Tables) : Type 0 where
  pub rows : cut.index.rows ≡ now.index.rows
  pub choices : cut.index.choices.items ≡ take m.choices now.index.choices.items
  pub cells : cut.room.cells ≡ m.cells
  pub wanting : cut.room.wanting.items ≡ take m.places now.room.wanting.items
  pub widths : cut.widths ≡ m.widths
  pub goals : cut.directs.goals.items ≡ take m.goals now.directs.goals.items

-- before the mark they were tables of code that the code begins with
pub record WasKept (code : Compiled) (t : Tables) (m : Mark) : Type 0 where
  pub base : Compiled
  pub before : Tables
  pub goes_on : GoesOnBehind code base
  pub extent : IsExtentOf base m.extent
  pub kept : AreKeptOf base before
  pub back : LeadsBack m before t
