use Rattle.std.proofs.Common.{◌+◌, ◌≤◌}
use Rattle.ap_index.specs.Index.{tried_from}
use Rattle.ap_index.specs.Pairs.{ArePairsOf}
use Rattle.ap_index.proofs.pairs.pairs_of.Given as goal

abbrev pub invariant-loop-at : goal.invariant-loop-at
invariant-loop-at l = record { order : l.start + 1 ≤ l.at; pairs : ArePairsOf l.code (tried_from l.code l.behind) l.pairs }
