use Rattle.std.proofs.Common.{◌≡◌, ◌++◌, drop}
use Rattle.ap_sharing.specs.Sets.{with_each}
use Rattle.ap_sharing.proofs.sets.Sets.grown.Given as goal

abbrev pub invariant-loop-t : goal.invariant-loop-t
invariant-loop-t l = l.all.items ++ with_each l.s (drop l.t-index l.t-items) ≡ l.initial.all.items ++ with_each l.s l.self
