use Rattle.std.proofs.Common.{◌≡◌, ◌+◌, drop}
use Rattle.ap_sharing.specs.Sets.{join_sets, sets_of}
use Rattle.ap_patterns.specs.Entry.{free_sets}
use Rattle.ap_patterns.proofs.entries.free_sets.Given as goal

abbrev pub invariant-loop-i : goal.invariant-loop-i
invariant-loop-i l = join_sets l.sets (free_sets (l.i + 1) (drop l.i l.marks)) ≡ sets_of (free_sets 1 l.marks)
