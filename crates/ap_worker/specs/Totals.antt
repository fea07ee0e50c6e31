-- The calls that all workers make for a query.
use Rattle.std.specs.Prelude.{◌≡◌, ℕ, ◌+◌, List, [], ◌∷◌, Result, Ok, Err}
use Rattle.ap_ledger.specs.declared.share.Total.{Total}
use Rattle.ap_outside.specs.declared.halting.Halt.{Halt}
use Rattle.ap_tie.specs.Sections.{Section}
use Rattle.ap_section.specs.Views.{budget_in}
use Rattle.ap_section.specs.Owed.{owed}
use Rattle.ap_worker.specs.declared.emission.Answered.{Answered}
use Rattle.ap_worker.specs.declared.emission.Ended.{Ended}
use Rattle.ap_worker.specs.declared.taken.Taken.{Taken}
use Rattle.ap_worker.specs.declared.worker.Worker.{Worker}

-- a section that has made no call, and may make so many
pub record IsFresh (budget : ℕ) (s : Section) : Type 0 where
  pub given : budget_in s ≡ budget
  pub owes : owed s ≡ 0

-- the same with the total, the goals that were taken, and the tickets that were stolen
abbrev pub ended_with : Total → ℕ → ℕ → Result Answered Halt → Result Ended Halt
ended_with t n m (Ok a) = Ok (record { end = a.end; charged = a.charged; total = t; taken = n; stolen = m })
ended_with t n m (Err h) = Err h

-- no worker took a goal of another one, nor a ticket
abbrev pub NoneTaken : Ended → Type 0
NoneTaken e = (e.taken ≡ 0) × (e.stolen ≡ 0)

-- ---- what is counted when all are done

-- the calls of searches of goals that were taken
abbrev pub shares_of : List Taken → ℕ
shares_of [] = 0
shares_of (t ∷ ts) = t.stack.share + shares_of ts

-- those of workers' searches
abbrev pub shares_in : List Worker → ℕ
shares_in [] = 0
shares_in (w ∷ ws) = shares_of w.taken.items + shares_in ws
