-- The plain command lines, which need no reader of options: behind the command its places and options in any order,
-- each value a word of its own.
use Rattle.std.specs.Prelude.{◌≡◌, Bool, true, ◌&&◌, not, List, [], ◌∷◌, Option, None, Some, find, option_map, option_and_then, bytes_eq, if◌then◌else◌}
use Rattle.std.specs.List.{list_all, list_any}
use Rattle.ap_words.specs.Numbers.{is_plain}
use Rattle.ap_words.specs.Table.{Text, Words, words_of}
use Rattle.ap_words.specs.Values.{Values, has}

-- an option's name as it is written
abbrev pub flag : Text → Text
flag name = 45 ∷ 45 ∷ name

-- a name is one of the options
abbrev pub is_option : List Text → Text → Bool
is_option options name = list_any (λ o. bytes_eq o name) options

-- the words that give texts to names: one for a place, two for an option
abbrev pub written : List Text → Values → List Text
written options [] = []
written options (v ∷ vs) = if is_option options v.0 then flag v.0 ∷ v.1 ∷ written options vs else v.1 ∷ written options vs

-- the names of places among those that are given
abbrev pub places_among : List Text → Values → List Text
places_among options [] = []
places_among options (v ∷ vs) = if is_option options v.0 then places_among options vs else v.0 ∷ places_among options vs

-- no option is given twice
abbrev pub is_once : List Text → Values → Bool
is_once options [] = true
is_once options (v ∷ vs) = not (is_option options v.0 && has v.0 vs) && is_once options vs

-- A plain command line of a command that gives texts to names: each text stands for itself, the places are those of
-- the command in their order, and no option comes twice.
pub record IsPlainLine (line : List Text) (command : Text) (vs : Values) : Type 0 where
  pub program : Text
  pub command_words : Words
  pub command_is : words_of command ≡ Some command_words
  pub line_is : line ≡ program ∷ command ∷ written command_words.options vs
  pub plain : list_all (λ v. is_plain v.1) vs ≡ true
  pub places : places_among command_words.options vs ≡ command_words.places
  pub once : is_once command_words.options vs ≡ true

-- ---- the same, word by word

-- the option that a word is
abbrev pub option_in : List Text → Text → Option Text
option_in options word = find (λ o. bytes_eq word (flag o)) options

-- where a reading stands: the places that are left, and the option that waits for its value
abbrev pub Stand : Type 0
Stand = List Text × Option Text

-- a word that stands for itself is the text of the option that waits, or else of the next place
abbrev pub plain_step : Stand → Option (Stand × Text)
plain_step (places, Some name) = Some ((places, None), name)
plain_step ([], None) = None
plain_step (place ∷ places, None) = Some ((places, None), place)

-- any other word has to be an option, which then waits
abbrev pub flag_step : List Text → Stand → Text → Option Stand
flag_step options (places, Some name) word = None
flag_step options (places, None) word = option_map (λ name. (places, Some name)) (option_in options word)

abbrev pub ends : Stand → Option Values
ends (places, Some name) = None
ends ([], None) = Some []
ends (place ∷ places, None) = None

abbrev pub gives : Text → (Stand → Option Values) → Option (Stand × Text) → Option Values
gives word next None = None
gives word next (Some p) = option_map (λ vs. (p.1, word) ∷ vs) (next p.0)

-- what words give, word by word
abbrev pub paired : List Text → List Text → Stand → Option Values
paired options [] s = ends s
paired options (w ∷ ws) s = if is_plain w then gives w (paired options ws) (plain_step s) else option_and_then (paired options ws) (flag_step options s w)

abbrev pub checked : List Text → Option Values → Option Values
checked options None = None
checked options (Some vs) = if is_once options vs then Some vs else None

-- what the words behind a command give to its names
abbrev pub values_by : Words → List Text → Option Values
values_by known behind = checked known.options (paired known.options behind (known.places, None))

abbrev pub of : Text → Option Values → Option (Text × Values)
of command None = None
of command (Some vs) = Some (command, vs)

abbrev pub command_line : Text → List Text → Option (Text × Values)
command_line command behind = option_and_then (λ known. of command (values_by known behind)) (words_of command)

-- a command line taken apart
abbrev pub line_by : List Text → Option (Text × Values)
line_by (program ∷ command ∷ behind) = command_line command behind
line_by line = None
