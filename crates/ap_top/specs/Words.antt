-- What the words of a command line ask for.
use Rattle.std.specs.Prelude.{List, ℕ}
use Rattle.ap_words.specs.Table.{Text}
use Rattle.ap_words.specs.Asked.{Run, Show, codes_of, runs, shows}
use Rattle.ap_words.specs.Reading.{IsRead, asks}

-- of `run`, and of `show`
abbrev pub Asked : Type 0
Asked = Run

abbrev pub Shown : Type 0
Shown = Show

-- a command line of `run` that asks for this
abbrev pub IsCommand : List Text → Asked → Type 0
IsCommand words what = IsRead words (asks (runs what))

-- of `show`
abbrev pub IsShow : List Text → Shown → Type 0
IsShow words what = IsRead words (asks (shows what))

-- of `code`, for the code of this file
abbrev pub IsCode : List Text → Text → Type 0
IsCode words file = IsRead words (asks (codes_of file))
