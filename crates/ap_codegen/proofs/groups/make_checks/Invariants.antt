use Rattle.std.proofs.Common.{◌≡◌, ◌++◌, drop}
use Rattle.ap_codegen.specs.Emitted.{steps_of}
use Rattle.ap_codegen.specs.Grouped.{make_checks, see_checks}
use Rattle.ap_codegen.proofs.groups.make_checks.Given as goal

abbrev pub invariant-loop-check : goal.invariant-loop-check
invariant-loop-check l =
    (steps_of l.code.items ++ make_checks (drop l.check-index l.tests) l.seen.items ≡ make_checks l.tests l.fn.seen.items)
    × (see_checks (drop l.check-index l.tests) l.seen.items ≡ see_checks l.tests l.fn.seen.items)
