use Rattle.std.proofs.Common.{◌≡◌, List, ◌∷◌, map, take}
use Rattle.ap_environments.specs.Kept.{Forked}
use Rattle.ap_machine.specs.View.{pushed_of}
use Rattle.ap_machine.proofs.rejoin.list_goals.Given as goal

abbrev pub invariant-loop-i : goal.invariant-loop-i
invariant-loop-i l = (f : Forked) (fs : List Forked) → l.environments.forks ≡ f ∷ fs → l.goals ≡ map pushed_of (take l.i f.returns)
