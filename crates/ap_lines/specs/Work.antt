-- What is still to be written of the terms of places, as the code keeps it on a stack, whose top is last.
use Rattle.std.specs.Prelude.{◌≡◌, ℕ, ◌+◌, ◌*◌, ◌<◌, ◌≤◌, false, List, [], ◌∷◌, ◌++◌, codes, Option, Some, None}
use Rattle.ap_term.specs.Tree.{Tree, size, size_all}
use Rattle.ap_term.specs.Vars.{add_vars, add_all_vars}
use Rattle.ap_term.specs.Substitution.{instance_all}
use Rattle.ap_cells.specs.Trees.{tree_at, span}
use Rattle.ap_cells.specs.Walks.{Each}
use Rattle.ap_writer.specs.Quoted.{name_text}
use Rattle.ap_writer.specs.Text.{all_shown, arguments, behind_commas, numbered_by, name_at}
use Rattle.ap_writer.specs.Work.{shown_by, is_cell, IsCell}
use Rattle.ap_lines.specs.declared.text.Work.{Work}
use Rattle.ap_lines.specs.declared.text.Work.TheVariants.{Own, Tail, Rest, CloseList}

-- a compound term's text, its arguments those of n places
abbrev pub called : List (List ℕ) → List ℕ → List Tree → ℕ → ℕ → ℕ → List ℕ
called names found ts a p n = name_text (name_at names a) ++ (codes "(" ++ arguments (all_shown names (instance_all (numbered_by found) (span ts p n))))

abbrev pub left_of : List (List ℕ) → List ℕ → List Tree → Work → List ℕ
left_of names found ts (Own p) = (shown_by names found (tree_at ts p)).own
left_of names found ts (Tail p) = (shown_by names found (tree_at ts p)).tail
left_of names found ts (Rest p n) = behind_commas (all_shown names (instance_all (numbered_by found) (span ts p n)))
left_of names found ts CloseList = codes "]"

abbrev pub left : List (List ℕ) → List ℕ → List Tree → List Work → List ℕ
left names found ts [] = []
left names found ts (x ∷ xs) = left names found ts xs ++ left_of names found ts x

-- the variables found once it is written
abbrev pub vars_of : List Tree → Work → List ℕ → List ℕ
vars_of ts (Own p) found = add_vars (tree_at ts p) found
vars_of ts (Tail p) found = add_vars (tree_at ts p) found
vars_of ts (Rest p n) found = add_all_vars (span ts p n) found
vars_of ts CloseList found = found

abbrev pub vars_left : List Tree → List Work → List ℕ → List ℕ
vars_left ts [] found = found
vars_left ts (x ∷ xs) found = vars_of ts x (vars_left ts xs found)

-- how much there is to write
abbrev pub weight_of : List Tree → Work → ℕ
weight_of ts (Own p) = 2 * size (tree_at ts p) + 1
weight_of ts (Tail p) = 2 * size (tree_at ts p) + 3
weight_of ts (Rest p n) = 2 * size_all (span ts p n) + 1
weight_of ts CloseList = 1

abbrev pub weight : List Tree → List Work → ℕ
weight ts [] = 0
weight ts (x ∷ xs) = weight_of ts x + weight ts xs

-- the places are among the first n
abbrev pub IsInside : ℕ → Work → Type 0
IsInside n (Own p) = p < n
IsInside n (Tail p) = p < n
IsInside n (Rest p k) = p + k ≤ n
IsInside n CloseList = Unit {0}

abbrev pub AreInside : ℕ → List Work → Type 0
AreInside n xs = Each (IsInside n) xs

-- the places of an element of a list and of what follows it, where the term is one
abbrev pub IsElement : List (List ℕ) → List Tree → Tree → Option (ℕ × ℕ) → Type 0
IsElement names ts t (Some parts) = IsCell names t (tree_at ts parts.0) (tree_at ts parts.1)
IsElement names ts t None = is_cell names t ≡ false
