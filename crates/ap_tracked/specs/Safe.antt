-- States whose groups may be run by their written checks alone, and so may those of all states that they lead to and of
-- the goals of these groups.
use Rattle.std.specs.Prelude.{ℕ}
use Rattle.std.specs.List.{All}
use Rattle.ap_term.specs.Goals.{Program}
use Rattle.ap_term.specs.Independence.{IsStrictlyIndependent, Holds}
use Rattle.ap_tracked.specs.Tracked.{Tracked}
use Rattle.ap_tracked.specs.Forks.{Fork, Forks}

-- where the written checks hold, the goals are strictly independent
abbrev pub IsIndependent : Fork → Type 0
IsIndependent f = All (Holds f.own) f.checks → IsStrictlyIndependent f.own f.goals

-- each group that its search comes to is so
abbrev pub IsSafe : Program → Tracked → Type 0
IsSafe p s = (d : ℕ) (f : Fork) → Forks p s d f → IsIndependent f
