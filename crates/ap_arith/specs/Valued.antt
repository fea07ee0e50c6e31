-- Operations that wait for an operand, and what they will come to.
use Rattle.std.specs.Prelude.{ℕ, ◌+◌, ◌*◌, ◌<◌, List, [], ◌∷◌, Some, Result, Ok, Err, ℤ}
use Rattle.ap_term.specs.declared.faults.Fault.{Fault}
use Rattle.ap_term.specs.Tree.{Tree}
use Rattle.ap_term.specs.Arithmetic.{evaluated, value_of, negated}
use Rattle.ap_cells.specs.Trees.{tree_at}
use Rattle.ap_cells.specs.Walks.{weight}
use Rattle.ap_arith.specs.declared.evaluation.Frame.{Frame}
use Rattle.ap_arith.specs.declared.evaluation.Frame.TheVariants.{Negate, Left, Right}
use Rattle.ap_arith.specs.declared.evaluation.Turn.{Turn}
use Rattle.ap_arith.specs.declared.evaluation.Turn.TheVariants.{Open, Close, Stop}

-- what an operation comes to, once it has the operand that it waits for
abbrev pub framed : List Tree → Frame → Result ℤ Fault → Result ℤ Fault
framed ts Negate x = negated x
framed ts (Left o place) x = value_of (Some o) x (evaluated (tree_at ts place))
framed ts (Right o x) y = value_of (Some o) (Ok x) y

-- what all operations come to, the last one innermost
abbrev pub valued : List Tree → List Frame → Result ℤ Fault → Result ℤ Fault
valued ts [] x = x
valued ts (f ∷ fs) x = framed ts f (valued ts fs x)

-- what comes next
abbrev pub turned : List Tree → Turn → Result ℤ Fault
turned ts (Open place) = evaluated (tree_at ts place)
turned ts (Close z) = Ok z
turned ts (Stop e) = Err e

-- the place is among the first n
abbrev pub IsFrame : ℕ → Frame → Type 0
IsFrame n Negate = Unit {0}
IsFrame n (Left o place) = place < n
IsFrame n (Right o x) = Unit {0}

abbrev pub IsTurn : ℕ → Turn → Type 0
IsTurn n (Open place) = place < n
IsTurn n (Close z) = Unit {0}
IsTurn n (Stop e) = Unit {0}

-- turns left
abbrev pub weight_turn : List Tree → Turn → ℕ
weight_turn ts (Open place) = 2 * weight (tree_at ts place)
weight_turn ts (Close z) = 1
weight_turn ts (Stop e) = 0

abbrev pub weight_frame : List Tree → Frame → ℕ
weight_frame ts Negate = 1
weight_frame ts (Left o place) = 2 * weight (tree_at ts place) + 1
weight_frame ts (Right o x) = 1

abbrev pub weight_frames : List Tree → List Frame → ℕ
weight_frames ts [] = 0
weight_frames ts (f ∷ fs) = weight_frame ts f + weight_frames ts fs
