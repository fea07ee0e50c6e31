-- Where the pieces of a joined text end.
use Rattle.std.specs.Prelude.{ℕ, ◌+◌, nat_lt, min, List, [], ◌∷◌, length, if◌then◌else◌}

-- the ends of pieces, the first of which begins at a place
abbrev pub ends_from : ℕ → List (List ℕ) → List ℕ
ends_from at [] = []
ends_from at (piece ∷ pieces) = (at + length piece) ∷ ends_from (at + length piece) pieces

-- the first end behind a place, or that of the whole text
abbrev pub end_behind : List ℕ → ℕ → ℕ → ℕ
end_behind [] at whole = whole
end_behind (cut ∷ cuts) at whole = if nat_lt at cut then min cut whole else end_behind cuts at whole
