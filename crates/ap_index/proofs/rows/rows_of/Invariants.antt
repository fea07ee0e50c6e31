use Rattle.std.proofs.Common.{◌≤◌}
use Rattle.ap_index.specs.Index.{AreRowsOf}
use Rattle.ap_index.proofs.rows.rows_of.Given as goal

abbrev pub invariant-loop-at : goal.invariant-loop-at
invariant-loop-at l = record { order : l.start ≤ l.at; rows : AreRowsOf l.code l.rows }
