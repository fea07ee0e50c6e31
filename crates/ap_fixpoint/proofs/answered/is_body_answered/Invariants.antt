use Rattle.std.proofs.Common.{◌≡◌, drop, map}
use Rattle.ap_term.specs.GoalView.{part_of}
use Rattle.ap_patterns.specs.Given.{patterns}
use Rattle.ap_fixpoint.specs.Answered.{is_body_answered}
use Rattle.ap_fixpoint.proofs.answered.is_body_answered.Given as goal

abbrev pub invariant-loop-part : goal.invariant-loop-part
invariant-loop-part l = is_body_answered (patterns l.table) (map part_of (drop l.part-index l.parts)) ≡ is_body_answered (patterns l.table) (map part_of l.parts)
