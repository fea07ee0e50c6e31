-- The invariant of `Cells`.
use Rattle.std.specs.Prelude.{◌≤◌, length}
use Rattle.std.specs.Vec.{vec_capacity}
use Rattle.ap_cells.specs.declared.cells.Cells.TheInside.{Inside}
use Rattle.ap_cells.specs.Store.{IsStore, Closed}

pub record Kept (a : Inside) : Type 0 where
  pub store : IsStore a.cells.items a.trail.items
  pub used : length a.cells.items ≤ a.limit
  pub room : a.limit ≤ a.cells.room
  pub trail_room : a.limit ≤ vec_capacity a.trail
  pub few : a.limit ≤ 4294967295
  pub settled : Closed a.settled a.cells.items
  pub settled_few : a.settled ≤ length a.cells.items
