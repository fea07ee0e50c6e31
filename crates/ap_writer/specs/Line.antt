-- The line of an answer.
use Rattle.std.specs.Prelude.{ℕ, Bool, false, ◌==◌, List, [], ◌∷◌, ◌++◌, codes, if◌then◌else◌}
use Rattle.ap_term.specs.Tree.{Tree, Trees, none, more}
use Rattle.ap_term.specs.UpToNames.{renumbered}
use Rattle.ap_writer.specs.Text.{text}

-- whether a variable's name begins with `_`
abbrev pub is_hidden : List ℕ → Bool
is_hidden [] = false
is_hidden (b ∷ bs) = b == 95

-- the names that are printed
abbrev pub printed_names : List (List ℕ) → List (List ℕ)
printed_names [] = []
printed_names (name ∷ names) = if is_hidden name then printed_names names else name ∷ printed_names names

-- the terms that are printed: those of these names
abbrev pub printed : List (List ℕ) → Trees → Trees
printed [] ts = none
printed (name ∷ names) none = none
printed (name ∷ names) (more t ts) = if is_hidden name then printed names ts else more t (printed names ts)

abbrev pub equation : List (List ℕ) → List ℕ → Tree → List ℕ
equation atoms name t = name ++ (codes " = " ++ text atoms t)

abbrev pub behind_first : List (List ℕ) → List (List ℕ) → Trees → List ℕ
behind_first atoms [] ts = []
behind_first atoms (name ∷ names) none = []
behind_first atoms (name ∷ names) (more t ts) = codes ", " ++ (equation atoms name t ++ behind_first atoms names ts)

-- the equations of names and terms, parted by a comma and a blank; where there is none, `true`
abbrev pub equations : List (List ℕ) → List (List ℕ) → Trees → List ℕ
equations atoms [] ts = codes "true"
equations atoms (name ∷ names) none = codes "true"
equations atoms (name ∷ names) (more t ts) = equation atoms name t ++ behind_first atoms names ts

-- The line of a tuple, without a line feed: names that begin with `_` are left out, and the variables of what is
-- printed are numbered from 1 by first occurrence in the line.
abbrev pub answer_line : List (List ℕ) → List (List ℕ) → Trees → List ℕ
answer_line atoms names ts = equations atoms (printed_names names) (renumbered (printed names ts))
