use Rattle.std.proofs.Common.{◌≡◌, drop}
use Rattle.std.specs.List.{filter}
use Rattle.ap_sharing.specs.VarSet.{union, meets}
use Rattle.ap_sharing.specs.Sets.{all_of}
use Rattle.ap_sharing.proofs.sets.Sets.union_of_meeting.Given as goal

abbrev pub invariant-loop-s : goal.invariant-loop-s
invariant-loop-s l = union l.all (all_of (filter (λ s. meets s l.v) (drop l.s-index l.s-items))) ≡ all_of (filter (λ s. meets s l.v) l.self)
