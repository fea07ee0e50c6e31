use Rattle.std.proofs.Common.{◌≡◌, drop}
use Rattle.std.specs.List.{list_all}
use Rattle.ap_sharing.specs.Share.{is_member}
use Rattle.ap_patterns.proofs.slots.is_share_covered.Given as goal

abbrev pub invariant-loop-s : goal.invariant-loop-s
invariant-loop-s l = list_all (λ s. is_member s l.by) (drop l.s-index l.s-items) ≡ list_all (λ s. is_member s l.by) l.share.sets
