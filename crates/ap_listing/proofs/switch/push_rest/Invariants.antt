-- What is put in, and the choices of the clause that is held and of the rest, are all of it.
use Rattle.std.proofs.Common.{◌≡◌, ◌++◌, drop}
use Rattle.ap_listing.specs.Switch.{rest_of}
use Rattle.ap_listing.proofs.switch.push_rest.Given as goal

abbrev pub invariant-loop-clause : goal.invariant-loop-clause
invariant-loop-clause l = l.instructions.items ++ rest_of l.held (drop l.clause-index l.rest) ≡ l.fn.instructions.items ++ rest_of l.second l.rest
