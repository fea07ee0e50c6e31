-- The outermost part of a term.
use Rattle.std.specs.Prelude.{◌≡◌, ℕ, ◌+◌, ◌<◌, ◌≤◌, List}
use Rattle.ap_term.specs.Tree.{Tree, var, int, atom, node}
use Rattle.ap_cells.specs.Trees.{tree_at, span}
use Rattle.ap_cells.specs.declared.top.Top.{Top}
use Rattle.ap_cells.specs.declared.top.Top.TheVariants.{Free, Int, Atom, Node}

-- the term
abbrev pub topped : List Tree → Top → Tree
topped ts (Free x) = var x
topped ts (Int z) = int z
topped ts (Atom a) = atom a
topped ts (Node a p n) = node a (span ts p n)

-- the places are among the first n, and that of a variable is unbound
abbrev pub IsTop : List Tree → ℕ → Top → Type 0
IsTop ts n (Free x) = (x < n) × (tree_at ts x ≡ var x)
IsTop ts n (Int z) = Unit {0}
IsTop ts n (Atom a) = Unit {0}
IsTop ts n (Node a p k) = p + k ≤ n
