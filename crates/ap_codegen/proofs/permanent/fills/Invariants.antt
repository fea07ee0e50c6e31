use Rattle.std.proofs.Common.{◌≡◌, ◌++◌, drop}
use Rattle.ap_term.specs.TermView.{trees_of}
use Rattle.ap_codegen.specs.Emitted.{steps_of}
use Rattle.ap_codegen.specs.Permanent.{see_all, inner, fills}
use Rattle.ap_codegen.proofs.permanent.fills.Given as goal

abbrev pub invariant-loop-t : goal.invariant-loop-t
invariant-loop-t l =
    (l.behind ≡ inner (trees_of (drop l.t-index l.terms)))
    × (steps_of l.code.items ++ fills (trees_of (drop l.t-index l.terms)) l.seen.items l.b l.m ≡ steps_of l.fn.code.items ++ fills l.args l.fn.seen.items l.b l.m)
    × (see_all (trees_of (drop l.t-index l.terms)) l.seen.items ≡ see_all l.args l.fn.seen.items)
