-- The term that steps make, with the atoms that its names have in a table.
use Rattle.std.specs.Prelude.{◌≡◌, ℕ, ◌+◌, List, [], ◌∷◌, ◌++◌, if◌then◌else◌, codes, bytes_eq, slice_get, length, ◌<◌, Result, Ok, Err}
use Rattle.ap_term.specs.AtomTable.{insert_names, capacity}
use Rattle.ap_term.specs.declared.names.InternErr.{InternErr}
use Rattle.ap_term.specs.declared.names.InternErr.TheVariants as err
use Rattle.ap_lexer.specs.Lexeme.{Text}
use Rattle.ap_term.specs.Tree as term
use Rattle.ap_term.specs.Tree.{Trees, var, int, atom, node, none, more}
use Rattle.ap_reader.specs.declared.pass.Step.{Step}
use Rattle.ap_reader.specs.declared.pass.Step.TheVariants as step
use Rattle.ap_reader.specs.Written.{Written, Variable, Integer, Atom, Node, Paren, Writtens, Nil, Cons, leaf_at, name_of, name_at}

-- the place of a name in a table
abbrev pub place_of : List Text → Text → ℕ
place_of [] name = 0
place_of (x ∷ xs) name = if bytes_eq x name then 0 else place_of xs name + 1

-- the term, with the places of its names as atoms
abbrev mutual
  pub term_in : List Text → Written → term.Tree
  term_in ns (Variable n) = var n
  term_in ns (Integer z) = int z
  term_in ns (Atom name) = atom (place_of ns name)
  term_in ns (Node name xs) = node (place_of ns name) (terms_in ns xs)
  term_in ns (Paren x) = term_in ns x

  pub terms_in : List Text → Writtens → Trees
  terms_in ns Nil = none
  terms_in ns (Cons x xs) = more (term_in ns x) (terms_in ns xs)

abbrev pub leaf_names : Written → List Text
leaf_names (Variable n) = []
leaf_names x = name_of x ∷ []

-- the names that a step puts into the table
abbrev pub step_names : List Written → Step → List Text
step_names xs (step.Operand at) = leaf_names (leaf_at (slice_get xs at))
step_names xs (step.Prefix at) = name_at xs at ∷ []
step_names xs (step.Infix at) = name_at xs at ∷ []
step_names xs (step.Compound at) = name_at xs at ∷ []
step_names xs step.Empty = codes "[]" ∷ []
step_names xs step.List = codes "[]" ∷ codes "." ∷ []
step_names xs step.Tailed = codes "." ∷ []
step_names xs _ = []

-- the names of a term, each behind those of its arguments
abbrev pub names : List Written → List Step → List Text
names xs [] = []
names xs (s ∷ steps) = step_names xs s ++ names xs steps

-- a table that another one begins with
abbrev pub Extends : List Text → List Text → Type 0
Extends ns ms = (more : List Text) × (ms ≡ ns ++ more)

-- the table before the name that it has no room for, or for which there was no memory
abbrev pub FaultAt : List Text → List Text → List Text → InternErr → Type 0
FaultAt added old new err.Full = (capacity < length (insert_names old added)) × Extends old new
FaultAt added old new err.NoMemory = Extends old new

-- the table after names were put into it
abbrev pub Interned : {A : Type 0} → List Text → List Text → List Text → Result A InternErr → Type 0
Interned added old new (Ok a) = new ≡ insert_names old added
Interned added old new (Err e) = FaultAt added old new e

-- terms as a list in front of a tail
abbrev pub tree_cells : ℕ → List term.Tree → term.Tree → term.Tree
tree_cells dot [] rest = rest
tree_cells dot (t ∷ ts) rest = node dot (more t (more (tree_cells dot ts rest) none))
