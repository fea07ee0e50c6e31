-- Pieces that were put to a sink, where it tells them: `None` claims nothing.
use Rattle.std.specs.Prelude.{◌≡◌, ℕ, List, [], ◌∷◌, ◌++◌, length, take, Option, None, Some, ⊤, ◌⊎◌}
use Rattle.std.specs.Io.KnownBytes.{Appends}

-- the pieces told grow by these
abbrev pub Adds : Option (List (List ℕ)) → Option (List (List ℕ)) → List (List ℕ) → Type 0
Adds None new pieces = ⊤
Adds (Some xs) None pieces = ⊥
Adds (Some xs) (Some ys) pieces = ys ≡ xs ++ pieces

-- lines that have P were put, each as one piece
abbrev pub Puts : Option (List (List ℕ)) → Option (List (List ℕ)) → (List (List ℕ) → Type 0) → Type 0
Puts old new P = (lines : List (List ℕ)) × Adds old new lines × P lines

-- one piece, which is a beginning of that one
abbrev pub IsBeginningOf : List ℕ → List (List ℕ) → Type 0
IsBeginningOf whole pieces = (part : List ℕ) × (pieces ≡ part ∷ []) × (take (length part) whole ≡ part)

-- the first lines of lines that have P
abbrev pub PrefixOf : (List (List ℕ) → Type 0) → List (List ℕ) → Type 0
PrefixOf P lines = (rest : List (List ℕ)) × P (lines ++ rest)

-- nothing yet, or the first lines of lines that have P
abbrev pub FrontOf : (List (List ℕ) → Type 0) → List (List ℕ) → Type 0
FrontOf P lines = (lines ≡ []) ⊎ PrefixOf P lines

-- the first lines of lines that have P, and a beginning of the next one
abbrev pub CutOf : (List (List ℕ) → Type 0) → List (List ℕ) → Type 0
CutOf P pieces = (before : List (List ℕ)) × (line : List ℕ) × (rest : List (List ℕ)) × (part : List ℕ) ×
    (pieces ≡ before ++ part ∷ []) × (take (length part) line ≡ part) × P (before ++ line ∷ rest)

-- a writer's known bytes grow by a beginning of a piece, perhaps empty
abbrev pub WritesFront : Option (List ℕ) → Option (List ℕ) → List ℕ → Type 0
WritesFront old new piece = (count : ℕ) × Appends old new (take count piece)
