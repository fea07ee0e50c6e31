-- What is still to be written of a term, as the code keeps it on a stack, whose top is last.
use Rattle.std.specs.Prelude.{◌≡◌, ℕ, ◌+◌, ◌*◌, Bool, false, List, [], ◌∷◌, ◌++◌, codes, Option, Some, None, bytes_eq}
use Rattle.std.specs.Borrow.{Bor}
use Rattle.ap_term.specs.declared.terms.Term.{Term}
use Rattle.ap_term.specs.Tree.{Tree, node, none, more, size, size_all}
use Rattle.ap_term.specs.TermView.{tree_of, trees_of}
use Rattle.ap_term.specs.Vars.{add_vars, add_all_vars}
use Rattle.ap_term.specs.Substitution.{instance, instance_all}
use Rattle.ap_writer.specs.declared.text.Work.{Work}
use Rattle.ap_writer.specs.declared.text.Work.TheVariants.{Own, Tail, Rest, CloseList}
use Rattle.ap_writer.specs.Text.{Shown, shown, all_shown, cell, behind_commas, numbered_by, name_at}

-- the texts of a term, its variables numbered by `found`
abbrev pub shown_by : List (List ℕ) → List ℕ → Tree → Shown
shown_by names found t = shown names (instance (numbered_by found) t)

abbrev pub text_by : List (List ℕ) → List ℕ → Tree → List ℕ
text_by names found t = (shown_by names found t).own

abbrev pub left_of : List (List ℕ) → List ℕ → Work → List ℕ
left_of names found (Own t) = (shown_by names found (tree_of t.now)).own
left_of names found (Tail t) = (shown_by names found (tree_of t.now)).tail
left_of names found (Rest ts) = behind_commas (all_shown names (instance_all (numbered_by found) (trees_of ts.now)))
left_of names found CloseList = codes "]"

abbrev pub left : List (List ℕ) → List ℕ → List Work → List ℕ
left names found [] = []
left names found (x ∷ xs) = left names found xs ++ left_of names found x

-- the variables found once it is written
abbrev pub vars_of : Work → List ℕ → List ℕ
vars_of (Own t) found = add_vars (tree_of t.now) found
vars_of (Tail t) found = add_vars (tree_of t.now) found
vars_of (Rest ts) found = add_all_vars (trees_of ts.now) found
vars_of CloseList found = found

abbrev pub vars_left : List Work → List ℕ → List ℕ
vars_left [] found = found
vars_left (x ∷ xs) found = vars_of x (vars_left xs found)

-- how much there is to write
abbrev pub weight_of : Work → ℕ
weight_of (Own t) = 2 * size (tree_of t.now) + 1
weight_of (Tail t) = 2 * size (tree_of t.now) + 3
weight_of (Rest ts) = 2 * size_all (trees_of ts.now) + 1
weight_of CloseList = 1

abbrev pub weight : List Work → ℕ
weight [] = 0
weight (x ∷ xs) = weight_of x + weight xs

-- whether a term is an element of a list with what follows it
abbrev pub is_cell : List (List ℕ) → Tree → Bool
is_cell names (node a (more t (more u none))) = bytes_eq (name_at names a) (codes ".")
is_cell names _ = false

-- what a term is whose element and rest are given
pub record IsCell (names : List (List ℕ)) (whole first rest : Tree) : Type 0 where
  pub texts : (found : List ℕ) → shown_by names found whole ≡ cell (shown_by names found first) (shown_by names found rest)
  pub variables : (found : List ℕ) → add_vars whole found ≡ add_vars rest (add_vars first found)
  pub larger : size whole ≡ size first + size rest + 3

abbrev pub IsCellOf : List (List ℕ) → Tree → Option (Bor Term × Bor Term) → Type 0
IsCellOf names t (Some parts) = IsCell names t (tree_of parts.0.now) (tree_of parts.1.now)
IsCellOf names t None = is_cell names t ≡ false

-- A term that is no such element is written behind a bar at a list's end, unless it is `[]`.
abbrev pub IsBehindBar : List (List ℕ) → Tree → Type 0
IsBehindBar names t = (found : List ℕ) → (shown_by names found t).tail ≡ codes "|" ++ ((shown_by names found t).own ++ codes "]")

-- a term that ends a list by itself
pub record IsNil (names : List (List ℕ)) (t : Tree) : Type 0 where
  pub text : (found : List ℕ) → (shown_by names found t).tail ≡ codes "]"
  pub variables : (found : List ℕ) → add_vars t found ≡ found
