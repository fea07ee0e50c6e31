use Rattle.std.proofs.Common.{◌≡◌, ◌≤◌, ◌+◌, ◌*◌, drop}
use Rattle.std.specs.Prelude.{sum}
use Rattle.ap_gen.proofs.summary.sum_of.Given as goal

abbrev pub invariant-loop-byte : goal.invariant-loop-byte
invariant-loop-byte l = record {
  sum : l.total + sum (drop l.byte-index l.line) ≡ sum l.line;
  small : l.total ≤ l.byte-index * 255;
}
