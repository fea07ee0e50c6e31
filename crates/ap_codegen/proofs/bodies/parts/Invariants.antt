use Rattle.std.proofs.Common.{◌≡◌, map, length, drop}
use Rattle.ap_term.specs.GoalView.{part_of}
use Rattle.ap_codegen.specs.Grouped.{body_leads}
use Rattle.ap_codegen.proofs.WholeLeads.{Awaits}
use Rattle.ap_codegen.proofs.bodies.parts.Given as goal

abbrev pub invariant-loop-part : goal.invariant-loop-part
invariant-loop-part l = (l.left ≡ length (drop l.part-index l.parts)) × Awaits l.code.items (body_leads (map part_of (drop l.part-index l.parts)) l.seen.items) (body_leads l.body l.fn.seen.items)
