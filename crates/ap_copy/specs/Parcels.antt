-- What a parcel keeps, and a cell at its new place.
use Rattle.std.specs.Prelude.{ℕ, ◌+◌, ◌-◌, ◌≤◌, List, length}
use Rattle.ap_term.specs.Tree.{Tree}
use Rattle.ap_term.specs.UpToNames.{SameUpToNames}
use Rattle.ap_cells.specs.declared.cells.Raw.{Raw}
use Rattle.ap_cells.specs.declared.cells.Raw.TheVariants.{Free, Same, Int, Atom, Node}
use Rattle.ap_cells.specs.Trees.{span, Stand, trees}
use Rattle.ap_copy.specs.Copies.{tuple_at, IsBelow}
use Rattle.ap_copy.specs.declared.parcels.Parcelled.TheInside.{Inside}

pub record IsParcel (a : Inside) : Type 0 where
  pub stand : Stand a.cells.items (trees a.cells.items)
  pub below : IsBelow a.cells.items
  pub terms : a.count ≤ length a.cells.items
  pub few : length a.cells.items ≤ 4294967295

-- the last cells of a block stand for the trees of the places, up to names
pub record IsPacked (ts : List Tree) (roots : List ℕ) (block : List Raw) : Type 0 where
  pub stand : Stand block (trees block)
  pub below : IsBelow block
  pub terms : length roots ≤ length block
  pub few : length block ≤ 4294967295
  pub same : SameUpToNames (span (trees block) (length block - length roots) (length roots)) (tuple_at ts roots)

-- a cell of a block that is moved behind n others
abbrev pub raw_moved : ℕ → Raw → Raw
raw_moved n Free = Free
raw_moved n (Same j) = Same (n + j)
raw_moved n (Int z) = Int z
raw_moved n (Atom a) = Atom a
raw_moved n (Node a p k) = Node a (n + p) k
