-- Plain lines, as the code keeps them.
use Rattle.std.specs.Prelude.{◌++◌, map, Option, option_map}
use Rattle.ap_words.specs.Table.{Text}
use Rattle.ap_words.specs.Values.{Values, value_of}
use Rattle.ap_words.specs.Plain.{Stand}
use Rattle.ap_words.specs.declared.plain.Line.{Line}
use Rattle.ap_words.specs.declared.plain.Stand.{Stand as Kept}

abbrev pub line_of : Line → Text × Values
line_of line = (line.command.now, map value_of line.values.items)

abbrev pub stand_of : Kept → Stand
stand_of s = (map (λ w. w.now) s.places.now, option_map (λ w. w.now) s.waiting)

-- what was given before, and what is given behind it
abbrev pub joined : Values → Option Values → Option Values
joined before vs = option_map (λ vs. before ++ vs) vs
