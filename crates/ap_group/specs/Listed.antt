-- Goals whose arguments' places stand in one list.
use Rattle.std.specs.Prelude.{ℕ, ◌+◌, ◌≤◌, List, map, length, take, drop}
use Rattle.std.specs.List.{AllByRecursion}
use Rattle.ap_group.specs.declared.goals.Goal.{Goal}
use Rattle.ap_group.specs.Groups.{Pushed}

abbrev pub goal_of : List ℕ → Goal → Pushed
goal_of ps g = record { predicate = g.predicate; arguments = take g.count (drop g.first ps) }

abbrev pub goals_of : List ℕ → List Goal → List Pushed
goals_of ps gs = map (goal_of ps) gs

abbrev pub IsListed : List ℕ → Goal → Type 0
IsListed ps g = g.first + g.count ≤ length ps

abbrev pub AreListed : List ℕ → List Goal → Type 0
AreListed ps gs = AllByRecursion (IsListed ps) gs
