-- A text cut into lines, each with its line feed; what stands behind the last line feed is a line too.
use Rattle.std.specs.Prelude.{ℕ, suc, List, [], ◌∷◌, ◌==◌, if◌then◌else◌}

-- the lines of a text whose first byte goes before those lines, in the first of them
abbrev pub begun_by : ℕ → List (List ℕ) → List (List ℕ)
begun_by b [] = (b ∷ []) ∷ []
begun_by b (line ∷ lines) = (b ∷ line) ∷ lines

abbrev pub text_lines : List ℕ → List (List ℕ)
text_lines [] = []
text_lines (b ∷ bs) = if b == 10 then (b ∷ []) ∷ text_lines bs else begun_by b (text_lines bs)

-- how long the first line is
abbrev pub line_length : List ℕ → ℕ
line_length [] = 0
line_length (b ∷ bs) = if b == 10 then 1 else suc (line_length bs)
