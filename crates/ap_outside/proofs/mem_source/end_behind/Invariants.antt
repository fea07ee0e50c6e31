use Rattle.std.proofs.Common.{◌≡◌, drop}
use Rattle.ap_outside.specs.Cuts.{end_behind}
use Rattle.ap_outside.proofs.mem_source.end_behind.Given as goal

abbrev pub invariant-loop-cut : goal.invariant-loop-cut
invariant-loop-cut l = end_behind (drop l.cut-index l.cuts) l.at l.whole ≡ end_behind l.cuts l.at l.whole
