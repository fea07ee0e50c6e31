-- The words of the program: its commands, with the places and the options of each.
use Rattle.std.specs.Prelude.{ℕ, List, [], ◌∷◌, Option, None, Some, bytes_eq, codes, if◌then◌else◌}

abbrev pub Text : Type 0
Text = List ℕ

-- the names of a command's places, in their order, and of its options
pub record Words : Type 0 where
  pub places : List Text
  pub options : List Text

abbrev pub words : List Text → List Text → Words
words places options = record { places = places; options = options }

abbrev pub run_words : Words
run_words = words (codes "FILE" ∷ []) (codes "workers" ∷ codes "budget" ∷ codes "answers" ∷ codes "annotator" ∷ [])

abbrev pub show_words : Words
show_words = words (codes "FILE" ∷ []) (codes "entry" ∷ codes "annotator" ∷ [])

abbrev pub code_words : Words
code_words = words (codes "FILE" ∷ []) []

abbrev pub load_words : Words
load_words = words (codes "SEED" ∷ codes "SIZE" ∷ []) (codes "workers" ∷ [])

-- the words of the command of a name
abbrev pub words_of : Text → Option Words
words_of command =
    if bytes_eq command (codes "run") then Some run_words
    else (if bytes_eq command (codes "show") then Some show_words
    else (if bytes_eq command (codes "code") then Some code_words
    else (if bytes_eq command (codes "load") then Some load_words else None)))
