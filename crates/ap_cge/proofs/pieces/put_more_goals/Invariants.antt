use Rattle.std.proofs.Common.{◌≡◌, ◌++◌, codes, map, take}
use Rattle.ap_term.specs.TermView.{tree_of}
use Rattle.ap_cge.specs.Printed.{behind, goal_pieces}
use Rattle.ap_cge.specs.PieceView.{piece_of}
use Rattle.ap_cge.proofs.pieces.put_more_goals.Given as goal

abbrev pub invariant-loop-goal : goal.invariant-loop-goal
invariant-loop-goal l = map piece_of l.out.items ≡ map piece_of l.initial.out.items ++ behind (codes " & ") (λ t. goal_pieces l.atoms (tree_of t)) (take l.goal-index l.goals)
