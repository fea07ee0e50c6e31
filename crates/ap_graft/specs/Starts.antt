-- The state in which a query begins, with its groups.
use Rattle.std.specs.Prelude.{◌+◌, map, None}
use Rattle.ap_term.specs.Goals.{Query}
use Rattle.ap_term.specs.Search.{variables}
use Rattle.ap_tracked.specs.Tracked.{placed, renamed, Tracked}

abbrev pub tracked_start : Query → Tracked
tracked_start q = record { goals = map (placed (renamed q.question.vars 0)) q.question.body; tuple = variables q.question.vars; next = q.question.vars + 1; steps = 0; fault = None }
