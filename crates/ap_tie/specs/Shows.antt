-- Which alternatives of the core a machine's states are.
use Rattle.std.specs.Prelude.{◌≡◌, ◌⊎◌, List, [], ◌∷◌}
use Rattle.ap_term.specs.Goals.{Program}
use Rattle.ap_core.specs.Tasks.{Alternatives, alternative, Alternative, state, frame}
use Rattle.ap_tracked.specs.Tracked.{Tracked, untracked}
use Rattle.ap_tracked.specs.Marks.{opening}
use Rattle.ap_tracked.specs.Kept.{IsKept}

-- Of the search of o: the machine's state is the core's, or that with its first group as a conjunction, where a check of it
-- didn't hold. No state of a machine is a frame.
abbrev pub Shows : Program → Tracked → Tracked → Alternative → Type 0
Shows p o s (state t) = (u : Tracked) × IsKept p o u × (t ≡ untracked u) × ((s ≡ u) ⊎ (s ≡ opening u))
Shows p o s (frame t rd w) = ⊥

-- in front of others
abbrev pub before : List Alternative → Alternatives → Alternatives
before [] l = l
before (a ∷ xs) l = alternative a (before xs l)
