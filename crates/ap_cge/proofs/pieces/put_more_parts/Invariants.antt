use Rattle.std.proofs.Common.{◌≡◌, ◌++◌, codes, map, take}
use Rattle.ap_term.specs.GoalView.{part_of}
use Rattle.ap_cge.specs.Printed.{behind, part_pieces}
use Rattle.ap_cge.specs.PieceView.{piece_of}
use Rattle.ap_cge.proofs.pieces.put_more_parts.Given as goal

abbrev pub invariant-loop-part : goal.invariant-loop-part
invariant-loop-part l = map piece_of l.out.items ≡ map piece_of l.initial.out.items ++ behind (codes ", ") (λ p. part_pieces l.atoms (part_of p)) (take l.part-index l.parts)
