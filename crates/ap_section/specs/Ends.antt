-- Where a section begins, and where it comes to rest.
use Rattle.std.specs.Prelude.{◌≡◌, ℕ, ◌+◌, ◌<◌, ◌≤◌, ◌⊎◌, List, [], ◌∷◌}
use Rattle.ap_term.specs.Tree.{Trees}
use Rattle.ap_tracked.specs.Tracked.{Tracked}
use Rattle.ap_instr.specs.Code.{Compiled}
use Rattle.ap_standing.specs.Machine.{Machine, failed}
use Rattle.ap_standing.specs.Holds.{Holds}
use Rattle.ap_machine.specs.View.{Paused}
use Rattle.ap_machine.specs.Started.{Started}
use Rattle.ap_tie.specs.Sections.{Section, section, bottom}
use Rattle.ap_tie.specs.Settled.{AreClosed}
use Rattle.ap_tie.specs.Tied.{IsAtAnswer}
use Rattle.ap_tied.specs.Settling.{HasGoals}
use Rattle.ap_section.specs.declared.advance.Turn.{Turn}
use Rattle.ap_section.specs.declared.advance.Turn.TheVariants.{Answer, Failed, Spent, More, Stopped, Fork}
use Rattle.ap_section.specs.Slots.{IsAtDueFrame}

-- a search of that predicate's call on that tuple, and no frame
abbrev pub Begins : Compiled → Trees → ℕ → ℕ → Section → Type 0
Begins code ts number rest s = (p : Paused) × Started code ts number rest p × (p.older ≡ []) × (s ≡ section p.machine 0 rest bottom)

-- whatever states the machine stands for, the first one has goals
abbrev pub IsCallNext : Compiled → Machine → Type 0
IsCallNext code m = (ss : List Tracked) → Holds code m ss → HasGoals ss

-- It stands at an answer; nothing is left; another call is due, and the budget is spent, or as many calls were made as were
-- asked for; it stands at a frame with which something is left to do. Where it was stopped it may stand anywhere.
abbrev pub Ends : Compiled → ℕ → Section → Section → Turn → Type 0
Ends code inferences s (section m c b st) Answer = IsAtAnswer m × AreClosed st
Ends code inferences s (section m c b st) Failed = (m.now ≡ failed) × (m.points ≡ []) × (st ≡ bottom)
Ends code inferences s (section m c b st) Spent = IsCallNext code m × (b ≤ c)
Ends code inferences (section n d e su) (section m c b st) More = IsCallNext code m × (c < b) × (c ≡ d + inferences)
Ends code inferences s t Stopped = Unit {0}
Ends code inferences s t Fork = IsAtDueFrame t

-- at an answer, behind which there is another one
abbrev pub HasNext : Compiled → Section → Type 0
HasNext code (section m c b st) = (st ≡ bottom → ⊥) ⊎ ((s : Tracked) (ss : List Tracked) → Holds code m (s ∷ ss) → ss ≡ [] → ⊥)

-- nothing is left behind it
abbrev pub HasNothing : Section → Type 0
HasNothing (section m c b st) = (m.points ≡ []) × (st ≡ bottom)

-- its machine goes on behind the answer at which it stands
abbrev pub left_behind : Section → Section
left_behind (section m c b st) = section (record m { now = failed }) c b st
