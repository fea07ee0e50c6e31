use Rattle.std.proofs.Common.{◌≡◌, drop}
use Rattle.ap_sharing.specs.VarSet.{union}
use Rattle.ap_sharing.specs.Sets.{all_of}
use Rattle.ap_sharing.proofs.sets.Sets.union_of_all.Given as goal

abbrev pub invariant-loop-s : goal.invariant-loop-s
invariant-loop-s l = union l.all (all_of (drop l.s-index l.s-items)) ≡ all_of l.self
