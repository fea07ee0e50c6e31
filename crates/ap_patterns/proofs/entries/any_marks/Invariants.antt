use Rattle.std.proofs.Common.{◌≡◌, ◌+◌, drop}
use Rattle.ap_sharing.specs.VarSet.{union}
use Rattle.ap_patterns.specs.Entry.{any_marks}
use Rattle.ap_patterns.proofs.entries.any_marks.Given as goal

abbrev pub invariant-loop-i : goal.invariant-loop-i
invariant-loop-i l = union l.found (any_marks (l.i + 1) (drop l.i l.marks)) ≡ union l.initial.found (any_marks 1 l.marks)
