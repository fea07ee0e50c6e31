use Rattle.std.proofs.Common.{◌≡◌, false, drop}
use Rattle.std.specs.List.{flat_map}
use Rattle.ap_sharing.specs.Sets.{join_sets, with_each, pairs, too_many}
use Rattle.ap_sharing.proofs.sets.Sets.unions_with.Given as goal

abbrev pub invariant-loop-s : goal.invariant-loop-s
invariant-loop-s l = record {
  rest : join_sets l.unions (flat_map (λ s. with_each s l.other) (drop l.s-index l.s-items)) ≡ pairs l.self l.other;
  few : too_many l.unions ≡ false;
}
