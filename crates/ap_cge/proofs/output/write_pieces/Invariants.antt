use Rattle.std.proofs.Common.{◌≡◌, ℕ, List, ◌++◌, map, take}
use Rattle.ap_term.specs.Blocks.{IsPrefix}
use Rattle.ap_cge.specs.PieceView.{piece_of}
use Rattle.ap_cge.specs.Printed.{pieces_text, add_pieces_vars}
use Rattle.ap_cge.proofs.output.write_pieces.Given as goal

abbrev pub invariant-loop-piece : goal.invariant-loop-piece
invariant-loop-piece l = record {
  text : (found : List ℕ) → IsPrefix l.numbers found → l.out.items ≡ l.initial.out.items ++ pieces_text l.atoms found (map piece_of (take l.piece-index l.pieces));
  variables : l.numbers ≡ add_pieces_vars (map piece_of (take l.piece-index l.pieces)) l.initial.numbers;
}
