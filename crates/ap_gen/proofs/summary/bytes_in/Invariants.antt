use Rattle.std.proofs.Common.{◌≡◌, ◌≤◌, ◌+◌, ◌*◌, ◌^◌, drop, map, length}
use Rattle.std.specs.Prelude.{sum}
use Rattle.ap_gen.proofs.summary.bytes_in.Given as goal

abbrev pub invariant-loop-line : goal.invariant-loop-line
invariant-loop-line l = record {
  sum : l.total + sum (map (λ line. length line.items) (drop l.line-index l.lines)) ≡ sum (map (λ line. length line.items) l.lines);
  small : l.total ≤ l.line-index * 2 ^ 64;
}
