-- Programs beside which a query may be asked by a clause for `?-`.
use Rattle.std.specs.Prelude.{ℕ, ◌≤◌, List, length}
use Rattle.ap_term.specs.declared.fixed.TheConstants.{QUERY}
use Rattle.ap_term.specs.Goals.{Program}
use Rattle.ap_graft.specs.Uncalled.{NeverCalls}
use Rattle.ap_machine.specs.Started.{NoneIsFor}

-- Nothing in the program has that name, and the table has the fixed names up to it.
pub record LeavesQuery (program : Program) (table : List (List ℕ)) : Type 0 where
  pub calls : NeverCalls QUERY program
  pub heads : NoneIsFor QUERY program
  pub fixed : 28 ≤ length table
