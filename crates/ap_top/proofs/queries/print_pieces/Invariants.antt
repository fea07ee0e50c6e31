use Rattle.std.proofs.Common.{◌≡◌, take, IfSome}
use Rattle.ap_outside.specs.Pieces.{Puts}
use Rattle.ap_top.specs.Counted.{IsCountedOutput}
use Rattle.ap_top.specs.Last.{IsLast}
use Rattle.ap_top.specs.Output.{IsOutput}
use Rattle.ap_top.proofs.queries.print_pieces.Given as goal

abbrev pub invariant-loop-piece : goal.invariant-loop-piece
invariant-loop-piece g l = record {
  put : Puts (g.K.Sink.pieces l.fn.out) (g.K.Sink.pieces l.out) (IsOutput l.bounds.budget l.bounds.answers l.program l.fn.atoms l.text (take l.piece-index l.pieces) l.tally);
  counted : Puts (g.K.Sink.pieces l.fn.out) (g.K.Sink.pieces l.out) (IsCountedOutput l.bounds l.crew.workers l.program l.fn.atoms l.text (take l.piece-index l.pieces));
  count : g.K.Sink.faults l.out ≡ g.K.Sink.faults l.fn.out;
  table : l.atoms ≡ l.fn.atoms;
  kept : IfSome l.kept (IsLast l.program l.bounds.kind);
}
