use Rattle.std.proofs.Common.{◌≡◌, ℕ, take}
use Rattle.ap_sharing.specs.VarSet.{has}
use Rattle.ap_conditions.specs.GoalSets.{in_one, in_two}
use Rattle.ap_conditions.proofs.conditions.parted.Given as goal

abbrev pub invariant-loop-s : goal.invariant-loop-s
invariant-loop-s l = record {
  one : (x : ℕ) → has l.found x ≡ in_one (take l.s-index l.sets) x;
  two : (x : ℕ) → has l.shared x ≡ in_two (take l.s-index l.sets) x;
}
