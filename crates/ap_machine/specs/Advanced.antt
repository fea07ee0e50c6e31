-- What a search is after some turns.
use Rattle.std.specs.Prelude.{◌≡◌, ℕ, ◌-◌, ◌≤◌, List, length, slice_get, Some}
use Rattle.ap_term.specs.Goals.{Program}
use Rattle.ap_term.specs.WellFormed.{IsProgram}
use Rattle.ap_tracked.specs.Tracked.{Tracked}
use Rattle.ap_instr.specs.declared.instruction.Instr.{Instr}
use Rattle.ap_instr.specs.declared.compiled.Predicate.{Predicate}
use Rattle.ap_instr.specs.Code.{Compiled}
use Rattle.ap_instr.specs.StandsFor.{called_by, StandsFor}
use Rattle.ap_standing.specs.Machine.{Machine}
use Rattle.ap_standing.specs.Holds.{IsApart, Holds, Turned}
use Rattle.ap_standing.specs.Laws.{KeepsStanding}
use Rattle.ap_machine.specs.Live.{KeepsLive}
use Rattle.ap_machine.specs.View.{Paused}

-- the predicates that the code calls aren't those of built-in goals
abbrev pub CallsApart : Compiled → Type 0
CallsApart code = (at n : ℕ) (i : Instr) (q : Predicate) → slice_get code.instructions at ≡ Some i → called_by i ≡ Some n → slice_get code.predicates n ≡ Some q → IsApart q

-- whatever one machine stands for, the other one does, where the code is so
abbrev pub GoesOn : Compiled → Machine → Machine → Type 0
GoesOn code m m' = CallsApart code → KeepsStanding code m m'

-- As many turns of the model as calls were counted lead from each list of states that it stood for to one that it stands for.
pub record Advanced (code : Compiled) (old new : Paused) : Type 0 where
  pub more : old.spent ≤ new.spent
  pub turned : (p : Program) → IsProgram p → StandsFor code p → (ss : List Tracked) → Holds code old.machine ss → (ts : List Tracked) × Turned p (new.spent - old.spent) ss ts × Holds code new.machine ts
  pub budget : new.budget ≡ old.budget
  pub roots : new.machine.roots ≡ old.machine.roots
  pub x : length new.machine.x ≡ length old.machine.x
  pub y : length new.machine.y ≡ length old.machine.y
  pub live : KeepsLive code old.machine new.machine
  pub older : new.older ≡ old.older
