-- Tuples: what a goal is asked for where it is run alone, and what a map gives at places.
use Rattle.std.specs.Prelude.{ℕ, List, [], ◌∷◌}
use Rattle.ap_term.specs.Tree.{Tree, Trees, var, int, atom, node, none, more}

-- a goal's tuple
abbrev pub arguments : Tree → Trees
arguments (var x) = more (var x) none
arguments (int z) = none
arguments (atom a) = none
arguments (node a ts) = ts

-- a name on its arguments; an atom, where there are none
abbrev pub applied : ℕ → Trees → Tree
applied a none = atom a
applied a (more t ts) = node a (more t ts)

abbrev pub tuple_under : (ℕ → Tree) → List ℕ → Trees
tuple_under k [] = none
tuple_under k (r ∷ rs) = more (k r) (tuple_under k rs)
