use Rattle.std.proofs.Common.{◌≡◌, ◌≤◌, ◌-◌, ◌++◌, None, replicate}
use Rattle.ap_direct.proofs.table.add_none.Given as goal

abbrev pub invariant-places : goal.invariant-places
invariant-places l = (l.made ≤ l.places) × (l.goals.items ≡ l.fn.goals.items ++ replicate l.made None)

abbrev pub decreases-places : goal.decreases-places
decreases-places l = l.places - l.made
