use Rattle.std.proofs.Common.{arith}
use Rattle.std.proofs.lemmas.Grind.{common_steps}
use Rattle.ap_cge.specs.PieceView.{piece_of}
use Rattle.ap_cge.proofs.Writing.{variables-more, text-more, prefix-before}
use Rattle.ap_cge.proofs.output.write_pieces.Goals as goal

pub loop-piece-preserved : goal.loop-piece-preserved
loop-piece-preserved c =
    let ps = c.args.pieces.now in
    let i = c.loop-piece.piece-index in
    let p = c.piece-item.result in
    record {
      text = λ found h.
          text-more c.args.atoms.now ps i p found c.args.out.now.items c.loop-piece.out.items c.write_piece.new.out.items c.loop-piece-test.true c.piece-item.is
          (c.loop-piece.invariant.text found (prefix-before (piece_of p) c.loop-piece.numbers c.write_piece.new.numbers found c.in_ok-write_piece.ensures.variables h))
          (c.in_ok-write_piece.ensures.text found h);
      variables =
          variables-more ps i p c.args.numbers.now c.loop-piece.numbers c.write_piece.new.numbers c.loop-piece-test.true c.piece-item.is c.loop-piece.invariant.variables
          c.in_ok-write_piece.ensures.variables;
    }

pub returns-clause-text : goal.returns-clause-text
returns-clause-text c = λ found h. grind (arith, common_steps, c.loop-piece.invariant.text found h)
