-- The numbers of the statuses, and the status that queries come to.
use Rattle.std.specs.Prelude.{ℕ, Bool, ◌||◌, if◌then◌else◌}
use Rattle.ap_top.specs.declared.status.Status.{Status}
use Rattle.ap_top.specs.declared.status.Status.TheVariants as status
use Rattle.ap_top.specs.declared.status.Tally.{Tally}

abbrev pub number_of : Status → ℕ
number_of status.Done = 0
number_of status.BudgetSpent = 1
number_of status.Usage = 2
number_of status.FileFault = 3
number_of status.ProgramRefused = 4
number_of status.QueryRefused = 5
number_of status.SinkFault = 6
number_of status.SourceFault = 7
number_of status.NoMemory = 8
number_of status.QueriesTooLong = 9
number_of status.EntryRefused = 10

-- what queries came to: whether a budget was spent, and whether one was refused
abbrev pub tally : Bool → Bool → Tally
tally spent refused = record { spent = spent; refused = refused }

abbrev pub both : Tally → Tally → Tally
both a b = tally (a.spent || b.spent) (a.refused || b.refused)

-- the status of a run whose source was read to its end
abbrev pub status_of : Tally → Status
status_of t = if t.refused then status.QueryRefused else (if t.spent then status.BudgetSpent else status.Done)
