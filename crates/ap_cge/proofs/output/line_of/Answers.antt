use Rattle.std.proofs.Common.{◌∙◌, ap, map}
use Rattle.ap_cge.specs.PieceView.{piece_of}
use Rattle.ap_cge.proofs.Writing.{line-is}
use Rattle.ap_cge.proofs.output.line_of.Goals as goal

pub returns : goal.returns
returns c =
    line-is c.args.atoms.now c.args.clause.now (map piece_of c.deref.result.now) c.write_pieces.new.numbers c.new-numbers.result c.write_pieces.new.out.items c.new-line.result.items
    (ap (map piece_of) c.deref.ensures.value ∙ c.in_ok-pieces.ensures) c.new-numbers.ensures c.new-line.ensures.items c.in_ok-write_pieces.ensures.variables c.in_ok-write_pieces.ensures.text
