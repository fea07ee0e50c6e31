-- Terms that are being built from cells, and what they will become.
use Rattle.std.specs.Prelude.{ℕ, ◌+◌, ◌*◌, ◌<◌, ◌≤◌, List, [], ◌∷◌}
use Rattle.ap_term.specs.Tree.{Tree, node, push_tree, append_trees}
use Rattle.ap_term.specs.TermView.{tree_of}
use Rattle.ap_cells.specs.Trees.{tree_at, span}
use Rattle.ap_cells.specs.Walks.{weight, weight_all}
use Rattle.ap_cells.specs.declared.terms.Frame.{Frame}
use Rattle.ap_cells.specs.declared.terms.Turn.{Turn}
use Rattle.ap_cells.specs.declared.terms.Turn.TheVariants.{Open, Close}

-- the term of a frame, with the arguments that are still to come
abbrev pub framed : List Tree → Frame → Tree
framed ts f = node f.name (append_trees f.args (span ts f.next f.left))

-- the term of a frame that waits for the argument t
abbrev pub with_argument : List Tree → Frame → Tree → Tree
with_argument ts f t = node f.name (append_trees (push_tree f.args t) (span ts f.next f.left))

-- the term of all frames, the last one innermost
abbrev pub closed : List Tree → List Frame → Tree → Tree
closed ts [] t = t
closed ts (f ∷ fs) t = with_argument ts f (closed ts fs t)

-- the tree that comes next
abbrev pub turned : List Tree → Turn → Tree
turned ts (Open place) = tree_at ts place
turned ts (Close t) = tree_of t

-- the places lie among the first n
abbrev pub IsFrame : ℕ → Frame → Type 0
IsFrame n f = f.next + f.left ≤ n

abbrev pub IsTurn : ℕ → Turn → Type 0
IsTurn n (Open place) = place < n
IsTurn n (Close t) = Unit {0}

-- turns left
abbrev pub weight_turn : List Tree → Turn → ℕ
weight_turn ts (Open place) = 2 * weight (tree_at ts place)
weight_turn ts (Close t) = 1

abbrev pub weight_frames : List Tree → List Frame → ℕ
weight_frames ts [] = 0
weight_frames ts (f ∷ fs) = 2 * weight_all (span ts f.next f.left) + 1 + weight_frames ts fs
