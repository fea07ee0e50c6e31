-- The condition on the goals of a part: each can be called, with variables that a state has.
use Rattle.std.specs.Prelude.{Bool, ◌&&◌}
use Rattle.ap_term.specs.Goals.{Part, call, group}
use Rattle.ap_term.specs.WellFormed.{callable, all_callable, numbered, numbered_all}

abbrev pub goals_formed : Part → Bool
goals_formed (call t) = callable t && numbered 255 t
goals_formed (group cs ts) = all_callable ts && numbered_all 255 ts
