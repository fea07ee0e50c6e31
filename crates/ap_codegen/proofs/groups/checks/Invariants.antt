use Rattle.std.proofs.Common.{◌≡◌, ◌++◌, length, drop}
use Rattle.ap_codegen.specs.Emitted.{leads_of}
use Rattle.ap_codegen.specs.Grouped.{check_leads}
use Rattle.ap_codegen.proofs.groups.checks.Given as goal

abbrev pub invariant-loop-check : goal.invariant-loop-check
invariant-loop-check l = (l.left ≡ length (drop l.check-index l.tests)) × (leads_of l.code.items ++ check_leads (drop l.check-index l.tests) l.n ≡ check_leads l.tests l.n)
