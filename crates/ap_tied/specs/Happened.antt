-- Events of a task, one after another.
use Rattle.std.specs.Prelude.{List, [], ◌∷◌, Option, Some, option_and_then}
use Rattle.ap_core.specs.Tasks.{Task}
use Rattle.ap_core.specs.Relation.{Rules}
use Rattle.ap_core.specs.Reached.{Happening}
use Rattle.ap_core.specs.Lifting.{at_end}

-- the task after a list of events, each at its path; none where one of them has no case
abbrev pub happened : Rules → List Happening → Task → Option Task
happened p [] t = Some t
happened p (e ∷ es) t = option_and_then (happened p es) (at_end p e.0 e.1 t)
