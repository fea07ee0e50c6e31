use Rattle.std.proofs.Common.{◌≡◌, ◌++◌, map, take}
use Rattle.ap_reach.proofs.calls.add_copies.Given as goal

abbrev pub invariant-loop-clause : goal.invariant-loop-clause
invariant-loop-clause l = l.part ≡ l.fn.part ++ map (λ c. c.now) (take l.clause-index l.clauses)
