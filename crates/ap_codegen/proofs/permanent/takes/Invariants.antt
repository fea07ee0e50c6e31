use Rattle.std.proofs.Common.{◌≡◌, ◌++◌, drop}
use Rattle.ap_term.specs.TermView.{trees_of}
use Rattle.ap_codegen.specs.Emitted.{steps_of}
use Rattle.ap_codegen.specs.Permanent.{see_all, inner, takes}
use Rattle.ap_codegen.proofs.permanent.takes.Given as goal

abbrev pub invariant-loop-t : goal.invariant-loop-t
invariant-loop-t l =
    (l.behind ≡ inner (trees_of (drop l.t-index l.terms)))
    × (steps_of l.code.items ++ takes (trees_of (drop l.t-index l.terms)) l.seen.items l.m ≡ steps_of l.fn.code.items ++ takes l.args l.fn.seen.items l.m)
    × (see_all (trees_of (drop l.t-index l.terms)) l.seen.items ≡ see_all l.args l.fn.seen.items)
