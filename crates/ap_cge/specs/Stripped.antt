-- A program without groups and checks.
use Rattle.std.specs.Prelude.{List, [], ◌∷◌, map}
use Rattle.std.specs.List.{flat_map}
use Rattle.ap_term.specs.Goals.{Part, call, group, calls, Clause, Program}

-- a group's goals are called one after another
abbrev pub stripped_part : Part → List Part
stripped_part (call t) = call t ∷ []
stripped_part (group cs ts) = calls ts

abbrev pub stripped_clause : Clause → Clause
stripped_clause c = record { head = c.head; body = flat_map stripped_part c.body; vars = c.vars; line = c.line }

abbrev pub stripped : Program → Program
stripped = map stripped_clause
