-- Places whose terms are those of an answer.
use Rattle.std.specs.Prelude.{◌≡◌, ℕ, ◌+◌, ◌<◌, List, length, slice_index_or}
use Rattle.ap_term.specs.Tree.{Tree}
use Rattle.ap_cells.specs.declared.cells.Raw.{Raw}
use Rattle.ap_match.specs.Fits.{Fits}
pub use Rattle.ap_group.specs.Meets.{IsInstance, MeetAll, AreInside}

-- the first n places have the trees of those from `first` on
abbrev pub AreEqual : List ℕ → ℕ → ℕ → (ℕ → Tree) → Type 0
AreEqual rs first n k = (j : ℕ) → j < n → k (slice_index_or rs j 0) ≡ k (first + j)

-- of the maps that fitted, all that have what is asked still fit, and no others do
pub record Narrows (old new : List Raw) (asked : (ℕ → Tree) → Type 0) : Type 0 where
  pub len : length new ≡ length old
  pub only : (k : ℕ → Tree) → Fits new k → Fits old k
  pub each : (k : ℕ → Tree) → Fits old k → asked k → Fits new k
