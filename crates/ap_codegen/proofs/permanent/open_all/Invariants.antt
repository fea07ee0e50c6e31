use Rattle.std.proofs.Common.{◌≡◌, ◌++◌}
use Rattle.ap_term.specs.Tree.{node}
use Rattle.ap_codegen.specs.Emitted.{steps_of}
use Rattle.ap_codegen.specs.Permanent.{see_taken, get}
use Rattle.ap_codegen.specs.Waiting.{opened, see_waiting, weight}
use Rattle.ap_codegen.proofs.permanent.open_all.Given as goal

abbrev pub invariant-loop-whole : goal.invariant-loop-whole
invariant-loop-whole l =
    (steps_of l.code.items ++ opened l.left.items l.seen.items ≡ steps_of l.fn.code.items ++ get (node l.fn.name l.args) l.a l.fn.seen.items l.m)
    × (see_waiting l.left.items l.seen.items ≡ see_taken (node l.fn.name l.args) l.fn.seen.items)

abbrev pub decreases-loop-whole : goal.decreases-loop-whole
decreases-loop-whole l = weight l.left.items
