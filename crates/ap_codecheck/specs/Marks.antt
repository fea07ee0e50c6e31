-- Marks of registers, by their numbers.
use Rattle.std.specs.Prelude.{ℕ, Bool, false, List, slice_index_or}

abbrev pub marked : List Bool → ℕ → Bool
marked marks n = slice_index_or marks n false
