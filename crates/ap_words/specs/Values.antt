-- What a command line gives to the names of its command.
use Rattle.std.specs.Prelude.{Bool, List, Option, find, option_map, is_some, bytes_eq}
use Rattle.ap_words.specs.Table.{Text}
use Rattle.ap_words.specs.declared.values.Value.{Value}

-- texts by name, in the order in which they are written
abbrev pub Values : Type 0
Values = List (Text × Text)

abbrev pub value_of : Value → Text × Text
value_of v = (v.name.now, v.text.now)

-- the first text of a name
abbrev pub given : Text → Values → Option Text
given name vs = option_map (λ v. v.1) (find (λ v. bytes_eq v.0 name) vs)

-- the name has a text
abbrev pub has : Text → Values → Bool
has name vs = is_some (given name vs)
