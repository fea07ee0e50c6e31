use Rattle.std.proofs.Common.{ℕ, ◌≤◌, map}
use Rattle.ap_term.specs.GoalView.{part_of}
use Rattle.ap_udg.specs.Runs.{IsRun}
use Rattle.ap_udg.proofs.runs.longest_run.Given as goal

-- a run is no longer than the one that is tried
abbrev pub invariant-loop-n : goal.invariant-loop-n
invariant-loop-n l = record {
  within : l.n ≤ l.most;
  longest : (m : ℕ) → IsRun l.rule l.s (map part_of l.parts) m → m ≤ l.n;
}

abbrev pub decreases-loop-n : goal.decreases-loop-n
decreases-loop-n l = l.n
