-- What is made of a command line.
use Rattle.std.specs.Prelude.{◌≡◌, ◌<◌, ◌≤◌, ◌^◌, List, [], Option, None, Some, option_and_then, ⊤}
use Rattle.clap.specs.Words.{IsAmong, Row, fault_of, subcommand_of}
use Rattle.clap.specs.declared.error.kind.ErrorKind.{ErrorKind}
use Rattle.clap.specs.declared.error.kind.ErrorKind.TheVariants as kind
use Rattle.ap_words.specs.Table.{Text}
use Rattle.ap_words.specs.Values.{Values}
use Rattle.ap_words.specs.Plain.{IsPlainLine, line_by}
use Rattle.ap_words.specs.Asked.{Asked, asked_by, asked_of, loads, runs}
use Rattle.ap_words.specs.Clap.{program, matched}
use Rattle.ap_words.specs.declared.reading.Reading.{Reading as Kept}
use Rattle.ap_words.specs.declared.reading.Reading.TheVariants as kept

-- what the line asks for, or that help or the version is to be shown, or that it is no command line
pub data Reading : Type 0 where
  asks : Asked → Reading
  help : Reading
  version : Reading
  usage : Reading

abbrev pub reading_of : Kept → Reading
reading_of (kept.Asks what) = asks (asked_of what)
reading_of kept.Help = help
reading_of kept.Version = version
reading_of kept.Usage = usage

-- a plain line asks for this
pub record IsPlain (line : List Text) (what : Asked) : Type 0 where
  pub command : Text
  pub values : Values
  pub is : IsPlainLine line command values
  pub asks : asked_by command values ≡ Some what

-- what a line asks for, where it is plain, taken apart
abbrev pub plainly : List Text → Option Asked
plainly line = option_and_then (λ p. asked_by p.0 p.1) (line_by line)

abbrev pub IsNotPlain : List Text → Type 0
IsNotPlain line = (what : Asked) → IsPlain line what → ⊥

-- where `clap` refuses a line: it was asked for help or the version, or finds no command line
abbrev pub refused : ErrorKind → Reading
refused kind.DisplayHelp = help
refused kind.DisplayVersion = version
refused _ = usage

-- where it takes one: a number out of its range and an annotator that there isn't make it no command line
abbrev pub taken : Option Asked → Reading
taken None = usage
taken (Some what) = asks what

-- what a subcommand and its matches come to
abbrev pub IsTaken : Option (Text × List Row) → Reading → Type 0
IsTaken met r = (command : Text) × (rows : List Row) × (met ≡ Some (command, rows)) × (r ≡ taken (asked_by command (matched command rows)))

-- what `clap` makes of a line
pub data IsClaps (line : List Text) (r : Reading) : Type 0 where
  refuses : (k : ErrorKind) → IsAmong k (fault_of program line) → r ≡ refused k → IsClaps line r
  takes : fault_of program line ≡ [] → IsTaken (subcommand_of program line) r → IsClaps line r

-- a line is read so: a plain one as it stands, and any other one as `clap` reads it
pub data IsRead (line : List Text) (r : Reading) : Type 0 where
  plain : (what : Asked) → IsPlain line what → r ≡ asks what → IsRead line r
  other : IsNotPlain line → IsClaps line r → IsRead line r

-- the numbers are in their ranges
abbrev pub InRange : Reading → Type 0
InRange (asks (runs r)) = (1 ≤ r.workers) × (r.workers ≤ 32) × (1 ≤ r.budget) × (r.budget ≤ 1000000000000) × (1 ≤ r.answers) × (r.answers ≤ 1000000000)
InRange (asks (loads seed size workers)) = (seed < 2 ^ 32) × (1 ≤ size) × (size ≤ 10000) × (1 ≤ workers) × (workers ≤ 32)
InRange _ = ⊤
