use Rattle.std.proofs.Common.{◌≡◌, ◌+◌, IsTrue, drop}
use Rattle.ap_term.specs.TermView.{trees_of}
use Rattle.ap_term.specs.WellFormed.{numbered_all}
use Rattle.ap_sharing.specs.VarSet.{union}
use Rattle.ap_patterns.specs.AfterCall.{kept_free}
use Rattle.ap_patterns.proofs.returns.kept_free.Given as goal

abbrev pub invariant-loop-i : goal.invariant-loop-i
invariant-loop-i l = record {
  whole : union l.kept (kept_free (l.i + 1) l.free l.success (trees_of (drop l.i l.args))) ≡ union l.initial.kept (kept_free 1 l.free l.success (trees_of l.args));
  numbers : IsTrue (numbered_all 255 (trees_of (drop l.i l.args)));
}
