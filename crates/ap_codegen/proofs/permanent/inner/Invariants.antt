use Rattle.std.proofs.Common.{◌≡◌, ◌+◌, ◌≤◌, drop}
use Rattle.ap_term.specs.TermView.{trees_of}
use Rattle.ap_codegen.specs.Permanent.{inner}
use Rattle.ap_codegen.proofs.permanent.inner.Given as goal

abbrev pub invariant-loop-t : goal.invariant-loop-t
invariant-loop-t l = (l.n ≤ l.t-index) × (l.n + inner (trees_of (drop l.t-index l.terms)) ≡ inner (trees_of l.terms))
