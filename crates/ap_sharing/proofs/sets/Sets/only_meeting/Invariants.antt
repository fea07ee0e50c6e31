use Rattle.std.proofs.Common.{◌≡◌, ◌++◌, drop, option_to_list}
use Rattle.std.specs.List.{filter}
use Rattle.ap_sharing.specs.VarSet.{meets}
use Rattle.ap_sharing.proofs.sets.Sets.only_meeting.Given as goal

abbrev pub invariant-loop-s : goal.invariant-loop-s
invariant-loop-s l = option_to_list l.found ++ filter (λ s. meets s l.v) (drop l.s-index l.s-items) ≡ filter (λ s. meets s l.v) l.self
