use Rattle.std.proofs.Common.{◌≡◌, ◌++◌, codes, map, take}
use Rattle.ap_cge.specs.Printed.{behind, check_pieces}
use Rattle.ap_cge.specs.PieceView.{piece_of}
use Rattle.ap_cge.proofs.pieces.put_more_checks.Given as goal

abbrev pub invariant-loop-check : goal.invariant-loop-check
invariant-loop-check l = map piece_of l.out.items ≡ map piece_of l.initial.out.items ++ behind (codes ", ") check_pieces (take l.check-index l.checks)
