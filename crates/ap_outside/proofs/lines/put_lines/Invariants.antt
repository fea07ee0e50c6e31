use Rattle.std.proofs.Common.{◌≡◌, map, take}
use Rattle.ap_outside.specs.Pieces.{Adds}
use Rattle.ap_outside.proofs.lines.put_lines.Given as goal

abbrev pub invariant-loop-line : goal.invariant-loop-line
invariant-loop-line g l = record {
  put : Adds (g.K.Sink.pieces l.fn.out) (g.K.Sink.pieces l.out) (map (λ line. line.items) (take l.line-index l.lines));
  count : g.K.Sink.faults l.out ≡ g.K.Sink.faults l.fn.out;
}
