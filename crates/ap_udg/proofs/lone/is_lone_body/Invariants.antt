use Rattle.std.proofs.Common.{◌≡◌, drop, map}
use Rattle.ap_term.specs.GoalView.{part_of}
use Rattle.ap_udg.specs.Lone.{is_lone_behind, is_lone_body}
use Rattle.ap_udg.proofs.lone.is_lone_body.Given as goal

abbrev pub invariant-loop-part : goal.invariant-loop-part
invariant-loop-part l = is_lone_behind l.is_behind (map part_of (drop l.part-index l.parts)) ≡ is_lone_body (map part_of l.parts)
