use Rattle.std.proofs.Common.{◌≡◌, map, take}
use Rattle.ap_outside.specs.Pieces.{Adds}
use Rattle.ap_cge.specs.Printed.{line_of}
use Rattle.ap_cge.proofs.output.put_clauses.Given as goal

abbrev pub invariant-loop-clause : goal.invariant-loop-clause
invariant-loop-clause g l = record {
  put : Adds (g.K.Sink.pieces l.fn.out) (g.K.Sink.pieces l.out) (map (line_of l.atoms) (take l.clause-index l.clauses));
  count : g.K.Sink.faults l.out ≡ g.K.Sink.faults l.fn.out;
}
