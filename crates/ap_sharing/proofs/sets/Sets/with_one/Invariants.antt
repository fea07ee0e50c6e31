use Rattle.std.proofs.Common.{◌≡◌, ◌++◌, drop}
use Rattle.ap_sharing.proofs.Ones.{with_one}
use Rattle.ap_sharing.proofs.sets.Sets.with_one.Given as goal

abbrev pub invariant-loop-s : goal.invariant-loop-s
invariant-loop-s l = l.sets.items ++ with_one l.a l.sides l.one (drop l.s-index l.s-items) ≡ with_one l.a l.sides l.one l.self
