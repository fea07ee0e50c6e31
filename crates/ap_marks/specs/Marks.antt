-- The invariant of `Marks`.
use Rattle.std.specs.Prelude.{◌≡◌, ℕ, ◌<◌, List, length, slice_index_or}
use Rattle.ap_marks.specs.declared.marks.Marks.TheInside.{Inside}

-- no number of a list stands there twice
abbrev pub AreDistinct : List ℕ → Type 0
AreDistinct order = (j k : ℕ) → j < k → k < length order → slice_index_or order j 0 ≡ slice_index_or order k 0 → ⊥

-- each number of a list is kept with its place there
pub record AreKept (order places : List ℕ) : Type 0 where
  pub inside : (k : ℕ) → k < length order → slice_index_or order k 0 < length places
  pub kept : (k : ℕ) → k < length order → slice_index_or places (slice_index_or order k 0) 0 ≡ k

-- where there are more than a few, each is kept with its place
pub record AreMarks (order places : List ℕ) : Type 0 where
  pub distinct : AreDistinct order
  pub kept : 16 < length order → AreKept order places

abbrev pub IsMarks : Inside → Type 0
IsMarks a = AreMarks a.order.items a.places.items
