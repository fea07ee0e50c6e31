-- The invariant of `PackedCells`.
use Rattle.std.specs.Prelude.{◌≤◌, length}
use Rattle.std.specs.Vec.{vec_capacity}
use Rattle.ap_cells.specs.declared.packed_cells.PackedCells.TheInside.{Inside}

-- each place has room for what stands apart
pub record Fits (a : Inside) : Type 0 where
  pub room : length a.words.items ≤ vec_capacity a.apart
  pub shorter : length a.apart.items ≤ length a.words.items
