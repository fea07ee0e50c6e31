use Rattle.std.proofs.Common.{◌≡◌, ℕ, IsTrue, drop, map}
use Rattle.std.specs.List.{list_all}
use Rattle.ap_term.specs.declared.clauses.Check.{Check}
use Rattle.ap_term.specs.GoalView.{part_of}
use Rattle.ap_term.specs.WellFormed.{well_formed_part}
use Rattle.ap_patterns.specs.declared.slots.Given.{Given}
use Rattle.ap_patterns.specs.Given.{patterns}
use Rattle.ap_certify.specs.Sights.{after_parts}
use Rattle.ap_certify.specs.Held.{IsBodyHeld}
use Rattle.ap_certify.specs.Refused.{BodyGives, BodyLeavesOut}
use Rattle.ap_certify.proofs.bodies.hold_body.Given as goal

abbrev pub invariant-loop-part : goal.invariant-loop-part
invariant-loop-part l = record {
  held : IsBodyHeld (patterns l.table) l.sight (map part_of (drop l.part-index l.parts)) → IsBodyHeld (patterns l.table) l.initial.sight (map part_of l.parts);
  after : after_parts (patterns l.table) l.sight (map part_of (drop l.part-index l.parts)) ≡ after_parts (patterns l.table) l.initial.sight (map part_of l.parts);
  gives : (m : ℕ) (g : Given) → BodyGives (patterns l.table) l.sight l.number (map part_of (drop l.part-index l.parts)) m g → BodyGives (patterns l.table) l.initial.sight l.initial.number (map part_of l.parts) m g;
  leaves_out : (m : ℕ) (c : Check) → BodyLeavesOut (patterns l.table) l.sight l.number (map part_of (drop l.part-index l.parts)) m c → BodyLeavesOut (patterns l.table) l.initial.sight l.initial.number (map part_of l.parts) m c;
  formed : IsTrue (list_all (well_formed_part 255) (map part_of (drop l.part-index l.parts)));
}
