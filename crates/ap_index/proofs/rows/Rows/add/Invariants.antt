use Rattle.std.proofs.Common.{◌+◌, ◌≤◌}
use Rattle.ap_index.specs.Index.{IsFilled, AreRowsOf}
use Rattle.ap_index.proofs.rows.Rows.add.Given as goal

abbrev pub invariant-loop-at : goal.invariant-loop-at
invariant-loop-at l = record { order : l.start + 1 ≤ l.at; rows : AreRowsOf l.code l.self; filled : IsFilled l.code l.at l.row }
