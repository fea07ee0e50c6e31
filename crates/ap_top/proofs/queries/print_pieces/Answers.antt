use Rattle.std.proofs.Common.{◌≡◌, false, take, get_or, None, Err, ap, sym, ◌∙◌, subst, rules, arith}
use Rattle.std.proofs.lemmas.Result.{err_from_is_err_and}
use Rattle.std.proofs.lemmas.List.{take_all}
use Rattle.ap_lexer.specs.declared.cut.Piece.{Piece}
use Rattle.ap_outside.specs.Pieces.{Puts}
use Rattle.ap_outside.specs.Halting.{Finishes}
use Rattle.ap_outside.proofs.Puts.{puts_then}
use Rattle.ap_outside.proofs.Halts.{passes_on}
use Rattle.ap_top.specs.Counted.{IsCountedOutput, IsCountedPiece}
use Rattle.ap_top.specs.Output.{PieceEnds, IsOutput}
use Rattle.ap_top.specs.Unasked.{LeavesQuery}
use Rattle.ap_top.specs.declared.status.Tally.{Tally}
use Rattle.ap_top.proofs.Counting.{one_more_counted}
use Rattle.ap_top.proofs.Outputs.{goes_on, stops, one_more}
use Rattle.ap_top.proofs.queries.print_pieces.Goals as goal

pub print_piece-requires-clause-query : goal.print_piece-requires-clause-query
print_piece-requires-clause-query g c κs within = subst (LeavesQuery c.args.program.now) (sym c.loop-piece.invariant.table) c.requires.query

pub returns-in_err-here-clause-lines : goal.returns-in_err-here-clause-lines
returns-in_err-here-clause-lines g c =
    let halt = err_from_is_err_and c.from_residual.result c.from_residual.ensures.1 in
    let same : c.from_residual.result ≡ Err c.in_err-here.field-0.0 = halt.1 ∙ ap Err halt.2 in
    let xs = c.args.pieces.now in
    let i = c.loop-piece.piece-index in
    let b = c.args.bounds.budget in
    let n = c.args.bounds.answers in
    let program = c.args.program.now in
    let table = c.args.atoms.now in
    let text = c.args.text.now in
    let d : Piece = record { from = 0; to = 0; line = 0; ended = false; bad = None } in
    let x = get_or xs i d in
    passes_on {T = Tally} {U = Tally} (IsOutput b n program table text (take i xs) c.loop-piece.tally) (PieceEnds b n program table text x) (IsOutput b n program table text xs)
    (goes_on b n program table text xs i d c.loop-piece-test.true c.loop-piece.tally) (stops b n program table text xs i d c.loop-piece-test.true c.loop-piece.tally)
    _ _ _ c.print_piece.result _ c.in_err-here.field-0.0 c.in_err-here.was same c.loop-piece.invariant.put
    (subst (λ t. Finishes (g.K.Sink.pieces c.loop-piece.out) (g.K.Sink.pieces c.print_piece.new.out) (PieceEnds b n program t text x) c.print_piece.result) c.loop-piece.invariant.table c.print_piece.ensures.lines)

pub loop-piece-preserved : goal.loop-piece-preserved
loop-piece-preserved g c =
    let xs = c.args.pieces.now in
    let i = c.loop-piece.piece-index in
    let b = c.args.bounds.budget in
    let n = c.args.bounds.answers in
    let program = c.args.program.now in
    let table = c.args.atoms.now in
    let text = c.args.text.now in
    let d : Piece = record { from = 0; to = 0; line = 0; ended = false; bad = None } in
    let x = get_or xs i d in
    record {
      put = puts_then _ _ _ (IsOutput b n program table text (take i xs) c.loop-piece.tally) (PieceEnds b n program table text x c.in_ok-here.here) _
          (one_more b n program table text xs i d c.loop-piece-test.true c.loop-piece.tally c.in_ok-here.here c.and-tally.result c.and-tally.ensures) c.loop-piece.invariant.put
          (subst (λ t. Puts (g.K.Sink.pieces c.loop-piece.out) (g.K.Sink.pieces c.print_piece.new.out) (PieceEnds b n program t text x c.in_ok-here.here)) c.loop-piece.invariant.table c.in_ok-here.ensures.lines);
      counted = puts_then _ _ _ (IsCountedOutput c.args.bounds c.args.crew.now.workers program table text (take i xs)) (IsCountedPiece c.args.bounds c.args.crew.now.workers program table text x) _
          (one_more_counted c.args.bounds c.args.crew.now.workers program table text xs i d c.loop-piece-test.true) c.loop-piece.invariant.counted
          (subst (λ t. Puts (g.K.Sink.pieces c.loop-piece.out) (g.K.Sink.pieces c.print_piece.new.out) (IsCountedPiece c.args.bounds c.args.crew.now.workers program t text x)) c.loop-piece.invariant.table c.in_ok-here.ensures.counted);
      count = search rules;
      table = search rules;
      kept = search rules;
    }

pub returns-clause-counted : goal.returns-clause-counted
returns-clause-counted g c =
    subst (λ xs. Puts (g.K.Sink.pieces c.args.out.now) (g.K.Sink.pieces c.loop-piece.out) (IsCountedOutput c.args.bounds c.args.crew.now.workers c.args.program.now c.args.atoms.now c.args.text.now xs))
    (take_all c.loop-piece.piece-index c.args.pieces.now (omega (arith, c.loop-piece-test.false))) c.loop-piece.invariant.counted
