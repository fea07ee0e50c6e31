-- The lines that sum a block up.
use Rattle.std.specs.Prelude.{ℕ, List, [], ◌∷◌, ◌++◌, codes, decimal, length, map, sum}

abbrev pub seed_line : ℕ → ℕ → List ℕ
seed_line seed size = codes "seed " ++ decimal seed ++ codes " size " ++ decimal size ++ codes "\n"

-- how many answer lines there are, how many bytes they have, and the sum of these bytes as numbers
abbrev pub answers_line : List (List ℕ) → List ℕ
answers_line answers = codes "answers " ++ decimal (length answers) ++ codes " bytes " ++ decimal (sum (map length answers)) ++ codes " sum " ++ decimal (sum (map sum answers)) ++ codes "\n"

-- the summary of a block that has these answer lines and this last line
abbrev pub summary : ℕ → ℕ → List (List ℕ) → List ℕ → List (List ℕ)
summary seed size answers end = seed_line seed size ∷ answers_line answers ∷ end ∷ []
