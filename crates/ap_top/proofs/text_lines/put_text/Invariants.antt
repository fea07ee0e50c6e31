use Rattle.std.proofs.Common.{◌≡◌, ◌++◌, length}
use Rattle.ap_outside.specs.Pieces.{Puts}
use Rattle.ap_top.specs.TextLines.{text_lines}
use Rattle.ap_top.proofs.text_lines.put_text.Given as goal

abbrev pub decreases-loop-rest : goal.decreases-loop-rest
decreases-loop-rest g l = length l.rest

abbrev pub invariant-loop-rest : goal.invariant-loop-rest
invariant-loop-rest g l = record {
  put : Puts (g.K.Sink.pieces l.fn.out) (g.K.Sink.pieces l.out) (λ ps. ps ++ text_lines l.rest ≡ text_lines l.fn.text);
  count : g.K.Sink.faults l.out ≡ g.K.Sink.faults l.fn.out;
}
