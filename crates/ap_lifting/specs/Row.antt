-- Rows of goals: bodies whose goals are called one after another, as the parts that they become.
use Rattle.std.specs.Prelude.{Bool, true, false, List, [], ◌∷◌, Option, Some, None}
use Rattle.ap_term.specs.Tree.{Tree, atom}
use Rattle.ap_term.specs.Goals.{Part, call, group}
use Rattle.ap_lifting.specs.Body.{Body, goal, conjunction}

abbrev pub is_call : Part → Bool
is_call (call t) = true
is_call (group cs ts) = false

-- the goal of a call; no row has another part
abbrev pub called : Part → Tree
called (call t) = t
called (group cs ts) = atom 0

-- the body that a row is, nested to the right
abbrev pub row_body : Part → List Part → Body
row_body p [] = goal (called p)
row_body p (q ∷ ps) = conjunction (goal (called p)) (row_body q ps)

-- a fact has none
abbrev pub row_if : List Part → Option Body
row_if [] = None
row_if (p ∷ ps) = Some (row_body p ps)
