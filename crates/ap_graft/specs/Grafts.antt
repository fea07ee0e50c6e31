-- A state of a goal's own search, put in the goal's place.
use Rattle.std.specs.Prelude.{ℕ, ◌+◌, ◌-◌, List, [], ◌∷◌, ◌++◌, map, Option, Some, None}
use Rattle.ap_term.specs.Tree.{Tree}
use Rattle.ap_term.specs.Substitution.{instance_all}
use Rattle.ap_term.specs.declared.faults.Fault.{Fault}
use Rattle.ap_laws.specs.Graft.{lifted_var, fitted}
use Rattle.ap_tracked.specs.Tracked.{Goal, call, fork, moved, opened, Tracked}

-- behind a fault none is left
abbrev pub behind : Option Fault → List Goal → List Goal
behind None gs = gs
behind (Some e) gs = []

-- g is the state's first goal, and K are those behind it
abbrev pub put : Tree → List Goal → ℕ → Tracked → Tracked → Tracked
put g K b s u = record {
  goals = map (moved (lifted_var b s.next)) u.goals ++ behind u.fault (map (moved (fitted g b s.next u.tuple)) K);
  tuple = instance_all (fitted g b s.next u.tuple) s.tuple;
  next = s.next + (u.next - b);
  steps = s.steps + u.steps;
  fault = u.fault;
}

abbrev pub put_first : List Goal → ℕ → Tracked → Tracked → Tracked
put_first [] b s u = s
put_first (call g ∷ K) b s u = put g K b s u
put_first (fork cs ts own now ∷ K) b s u = s

-- the state with its first group as a conjunction, and there the first goal replaced
abbrev pub tracked_graft : ℕ → Tracked → Tracked → Tracked
tracked_graft b s u = put_first (opened s.goals) b s u

-- one after the other, each in the place of the goal that then comes first
abbrev pub tracked_grafts : ℕ → Tracked → List Tracked → Tracked
tracked_grafts b s [] = s
tracked_grafts b s (u ∷ us) = tracked_grafts b (tracked_graft b s u) us
