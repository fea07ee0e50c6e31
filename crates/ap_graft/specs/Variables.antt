-- States that have only variables of a kind, and whose groups have goals.
use Rattle.std.specs.Prelude.{◌≡◌, ℕ, ◌<◌, ◌≤◌, List, [], Option, Some, None}
use Rattle.std.specs.List.{AllByRecursion}
use Rattle.ap_term.specs.Tuples.{arguments}
use Rattle.ap_term.specs.Tree.{Tree, none, more}
use Rattle.ap_term.specs.Substitution.{instance_all}
use Rattle.ap_term.specs.declared.faults.Fault.{Fault}
use Rattle.ap_term.specs.Vars.{Local, LocalAll}
use Rattle.ap_laws.specs.Graft.{IsOwn}
use Rattle.ap_tracked.specs.Tracked.{Goal, call, fork, Tracked}

-- of a group: what stands for each variable of its clause; and the group has a goal
abbrev pub LocalGoal : (ℕ → Type 0) → Goal → Type 0
LocalGoal P (call t) = Local P t
LocalGoal P (fork cs none own now) = ⊥
LocalGoal P (fork cs (more t ts) own now) = (x : ℕ) → Local P (own x)

abbrev pub LocalGoals : (ℕ → Type 0) → List Goal → Type 0
LocalGoals P gs = AllByRecursion (LocalGoal P) gs

-- behind a fault no goal is left
abbrev pub NoneBehind : Option Fault → List Goal → Type 0
NoneBehind None gs = Unit {0}
NoneBehind (Some e) gs = gs ≡ []

-- a kind of variables may depend on the first unused one, which is at least b
abbrev pub IsLocal : (ℕ → ℕ → Type 0) → ℕ → Tracked → Type 0
IsLocal P b s = LocalGoals (P s.next) s.goals × LocalAll (P s.next) s.tuple × (b ≤ s.next) × NoneBehind s.fault s.goals

abbrev pub Below : ℕ → ℕ → Type 0
Below n x = x < n

-- each variable of the state is below its first unused one
abbrev pub IsTrackedBelow : Tracked → Type 0
IsTrackedBelow s = IsLocal Below 0 s

-- a state of the search of a goal alone, which began at b
abbrev pub IsOwnOf : Tree → ℕ → Tracked → Type 0
IsOwnOf g b u = (f : ℕ → Tree) × (u.tuple ≡ instance_all f (arguments g)) × IsLocal (IsOwn g b) b u
