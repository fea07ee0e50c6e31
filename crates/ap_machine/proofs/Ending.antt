-- The states that are left where a search ends.
use Rattle.std.proofs.Common.{◌≡◌, ℕ, ◌+◌, ◌<◌, List, length, ◌∙◌}
use Rattle.std.specs.List.{AllByRecursion}
use Rattle.ap_tracked.specs.Tracked.{Tracked}
use Rattle.ap_instr.specs.Code.{Compiled}
use Rattle.ap_standing.specs.Holds.{Holds}
use Rattle.ap_machine.specs.declared.advance.Turn.{Turn}
use Rattle.ap_machine.specs.declared.advance.Turn.TheVariants.{Answer, Failed, Spent, More, Stopped, Group}
use Rattle.ap_machine.specs.View.{Paused}
use Rattle.ap_machine.specs.Ends.{Ends, AreStates}
use Rattle.ap_machine.proofs.Resting.{goals-left, answer-first, none-left}

-- the states that are left
pub states-left : (code : Compiled) (n : ℕ) (old new : Paused) → AllByRecursion (λ r. r < length new.machine.cells) new.machine.roots → (turn : Turn) → Ends code n old new turn
    → (ss : List Tracked) → Holds code new.machine ss → AreStates new.machine ss turn
states-left code n old new inside Answer h ss held = answer-first code new.machine inside h ss held
states-left code n old new inside Failed h ss held = none-left code new.machine h ss held
states-left code n old new inside Spent h ss held = goals-left code new.machine h.0 ss held
states-left code n old new inside More h ss held = goals-left code new.machine h.0 ss held
states-left code n old new inside Stopped h ss held = tt
states-left code n old new inside Group h ss held = tt

-- a search that ends with its last turn
pub ends-later : (code : Compiled) (left inferences : ℕ) (old middle new : Paused) → middle.spent + left ≡ old.spent + inferences → (end : Turn) → Ends code left middle new end → Ends code inferences old new end
ends-later code left inferences old middle new e Answer h = h
ends-later code left inferences old middle new e Failed h = h
ends-later code left inferences old middle new e Spent h = h
ends-later code left inferences old middle new e More h = (h.0, h.1, h.2 ∙ e)
ends-later code left inferences old middle new e Stopped h = tt
ends-later code left inferences old middle new e Group h = h
