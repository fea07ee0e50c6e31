use Rattle.std.proofs.Common.{◌≡◌, ◌++◌, drop}
use Rattle.ap_term.specs.TermView.{trees_of}
use Rattle.ap_term.specs.Vars.{add_all_vars}
use Rattle.ap_codegen.specs.Emitted.{leads_of}
use Rattle.ap_codegen.specs.Grouped.{straight, pushes, Numbers}
use Rattle.ap_codegen.proofs.groups.sides.Given as goal

abbrev pub invariant-loop-t : goal.invariant-loop-t
invariant-loop-t l =
    (leads_of l.code.items ++ straight (pushes (trees_of (drop l.t-index l.t-items)) l.seen.items) ≡ straight (pushes l.calls l.fn.seen.items))
    × Numbers 0 l.i l.code.items
    × (add_all_vars (trees_of (drop l.t-index l.t-items)) l.seen.items ≡ add_all_vars l.calls l.fn.seen.items)
