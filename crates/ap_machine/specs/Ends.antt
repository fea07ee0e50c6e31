-- Why a search came back, and what that says of the model's states.
use Rattle.std.specs.Prelude.{◌≡◌, ℕ, ◌+◌, ◌<◌, ◌≤◌, List, []}
use Rattle.ap_tracked.specs.Tracked.{Tracked}
use Rattle.ap_instr.specs.Code.{Compiled}
use Rattle.ap_standing.specs.Machine.{Machine}
use Rattle.ap_machine.specs.declared.advance.Turn.{Turn}
use Rattle.ap_machine.specs.declared.advance.Turn.TheVariants.{Answer, Failed, Spent, More, Stopped, Group}
use Rattle.ap_machine.specs.View.{Paused}
use Rattle.ap_machine.specs.Stands.{IsCallDue, IsAtAnswer, IsAtEnd, IsAtGroup, tuple_of, IsAnswer, HasGoals}

-- It stands at an answer; nothing is left; another call is due, and the budget is spent, or as many calls were made as were
-- asked for; it stands at a group, whatever was spent. Where it was stopped it may stand anywhere.
abbrev pub Ends : Compiled → ℕ → Paused → Paused → Turn → Type 0
Ends code inferences old new Answer = IsAtAnswer new.machine
Ends code inferences old new Failed = IsAtEnd new.machine
Ends code inferences old new Spent = IsCallDue code new.machine.now × (new.budget ≤ new.spent)
Ends code inferences old new More = IsCallDue code new.machine.now × (new.spent < new.budget) × (new.spent ≡ old.spent + inferences)
Ends code inferences old new Stopped = Unit {0}
Ends code inferences old new Group = IsAtGroup code new.machine

-- why no call is made where one is due, and so many may be made
abbrev pub IsHeldUp : ℕ → Paused → Turn → Type 0
IsHeldUp left s Spent = s.budget ≤ s.spent
IsHeldUp left s More = (s.spent < s.budget) × (left ≡ 0)
IsHeldUp left s Stopped = Unit {0}
IsHeldUp left s Answer = ⊥
IsHeldUp left s Failed = ⊥
IsHeldUp left s Group = ⊥

-- what the states are that a machine stands for which came back
abbrev pub AreStates : Machine → List Tracked → Turn → Type 0
AreStates m ss Answer = IsAnswer (tuple_of m) ss
AreStates m ss Failed = ss ≡ []
AreStates m ss Spent = HasGoals ss
AreStates m ss More = HasGoals ss
AreStates m ss Stopped = Unit {0}
AreStates m ss Group = Unit {0}
