use Rattle.std.proofs.Common.{◌≡◌, ℕ, ◌≤◌, List, length, drop}
use Rattle.ap_environments.specs.Frames.{chain}
use Rattle.ap_environments.proofs.frames.above.Given as goal

abbrev pub invariant-loop : goal.invariant-loop
invariant-loop l = record {
  chain : (ss : List ℕ) → chain ss l.frames l.up ≡ drop l.counter (chain ss l.frames l.top);
  up : l.up ≤ length l.frames;
}
