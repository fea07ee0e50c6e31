use Rattle.std.proofs.Common.{◌≡◌, ◌+◌, IsTrue, drop}
use Rattle.ap_term.specs.TermView.{trees_of}
use Rattle.ap_term.specs.WellFormed.{numbered_all}
use Rattle.ap_absunify.specs.AfterEqual.{after_all}
use Rattle.ap_patterns.specs.Entering.{head_equations}
use Rattle.ap_patterns.proofs.clauses.after_head.Given as goal

abbrev pub invariant-loop-i : goal.invariant-loop-i
invariant-loop-i l = record {
  whole : after_all l.state (head_equations (l.n + l.i + 1) (trees_of (drop l.i l.head))) ≡ after_all l.initial.state (head_equations (l.n + 1) (trees_of l.head));
  numbers : IsTrue (numbered_all 255 (trees_of (drop l.i l.head)));
}
