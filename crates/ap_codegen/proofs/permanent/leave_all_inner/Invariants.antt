use Rattle.std.proofs.Common.{◌≡◌, List, drop}
use Rattle.ap_term.specs.TermView.{trees_of}
use Rattle.ap_codegen.specs.declared.permanent.Making.{Making}
use Rattle.ap_codegen.specs.Permanent.{inner}
use Rattle.ap_codegen.specs.Waiting.{MakesMore}
use Rattle.ap_codegen.proofs.permanent.leave_all_inner.Given as goal

abbrev pub invariant-loop-t : goal.invariant-loop-t
invariant-loop-t l =
    (l.behind ≡ inner (trees_of (drop l.t-index l.terms)))
    × ((out : List Making) → MakesMore (trees_of (drop l.t-index l.terms)) l.whole l.left.items out → MakesMore l.whole.args.now l.whole l.fn.left.items out)
