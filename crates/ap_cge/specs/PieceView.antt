-- The piece that a value of the code stands for.
use Rattle.ap_term.specs.Tree.{var}
use Rattle.ap_term.specs.TermView.{tree_of}
use Rattle.ap_cge.specs.declared.pieces.Piece as code
use Rattle.ap_cge.specs.declared.pieces.Piece.TheVariants as piece
use Rattle.ap_cge.specs.Printed.{Piece, word, term}

abbrev pub piece_of : code.Piece → Piece
piece_of (piece.Sign bytes) = word bytes.now
piece_of (piece.Term t) = term (tree_of t.now)
piece_of (piece.Variable x) = term (var x)
