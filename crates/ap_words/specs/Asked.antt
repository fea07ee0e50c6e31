-- What a command line asks for, by the texts that it gives to names.
use Rattle.std.specs.Prelude.{ℕ, Option, None, Some, option_map, option_and_then, unwrap_or, [], bytes_eq, codes, if◌then◌else◌}
use Rattle.ap_words.specs.Numbers.{number}
use Rattle.ap_words.specs.Table.{Text}
use Rattle.ap_words.specs.Values.{Values, given}
use Rattle.ap_words.specs.declared.asked.Annotator.{Annotator}
use Rattle.ap_words.specs.declared.asked.Annotator.TheVariants as annotator
use Rattle.ap_words.specs.declared.asked.Asked.{Asked as Kept}
use Rattle.ap_words.specs.declared.asked.Asked.TheVariants as kept
use Rattle.ap_words.specs.declared.asked.Run.{Run as KeptRun}
use Rattle.ap_words.specs.declared.asked.Show.{Show as KeptShow}

-- of `run`: the file, how many workers may run its goals, the calls that a query may make, the answers that it may print, and
-- which groups are made
pub record Run : Type 0 where
  pub file : Text
  pub workers : ℕ
  pub budget : ℕ
  pub answers : ℕ
  pub groups : Annotator

abbrev pub run : Text → ℕ → ℕ → ℕ → Annotator → Run
run file workers budget answers groups = record { file = file; workers = workers; budget = budget; answers = answers; groups = groups }

-- of `show`: the file, the pattern of an entry, if there is one, and which groups are made
pub record Show : Type 0 where
  pub file : Text
  pub entry : Option Text
  pub groups : Annotator

abbrev pub show : Text → Option Text → Annotator → Show
show file entry groups = record { file = file; entry = entry; groups = groups }

pub data Asked : Type 0 where
  runs : Run → Asked
  shows : Show → Asked
  codes_of : Text → Asked
  loads : ℕ → ℕ → ℕ → Asked

abbrev pub run_of : KeptRun → Run
run_of r = run r.file.now r.workers r.budget r.answers r.annotator

abbrev pub show_of : KeptShow → Show
show_of s = show s.file.now (option_map (λ w. w.now) s.entry) s.annotator

abbrev pub asked_of : Kept → Asked
asked_of (kept.Run r) = runs (run_of r)
asked_of (kept.Show s) = shows (show_of s)
asked_of (kept.Code file) = codes_of file.now
asked_of (kept.Load seed size workers) = loads seed size workers

-- ---- by names

-- the text of a name that has one on every command line that is taken
abbrev pub text_at : Text → Values → Text
text_at name vs = unwrap_or (given name vs) []

abbrev pub number_at : Text → ℕ → ℕ → Values → Option ℕ
number_at name least greatest vs = number least greatest (text_at name vs)

-- a number, or the one that goes where none is given
abbrev pub number_or : ℕ → ℕ → ℕ → Option Text → Option ℕ
number_or otherwise least greatest None = Some otherwise
number_or otherwise least greatest (Some word) = number least greatest word

abbrev pub annotator_named : Text → Option Annotator
annotator_named word =
    if bytes_eq word (codes "mel") then Some annotator.Mel
    else (if bytes_eq word (codes "udg") then Some annotator.Udg else (if bytes_eq word (codes "none") then Some annotator.None else None))

abbrev pub annotator_or : Option Text → Option Annotator
annotator_or None = Some annotator.Mel
annotator_or (Some word) = annotator_named word

-- how many workers there are: 1 where none is given
abbrev pub workers_by : Values → Option ℕ
workers_by vs = number_or 1 1 32 (given (codes "workers") vs)

abbrev pub run_by : Values → Option Run
run_by vs =
    option_and_then (λ workers. option_and_then (λ budget. option_and_then (λ answers. option_map (run (text_at (codes "FILE") vs) workers budget answers) (annotator_or (given (codes "annotator") vs)))
    (number_or 1000000 1 1000000000 (given (codes "answers") vs))) (number_or 10000000 1 1000000000000 (given (codes "budget") vs))) (workers_by vs)

abbrev pub show_by : Values → Option Show
show_by vs = option_map (show (text_at (codes "FILE") vs) (given (codes "entry") vs)) (annotator_or (given (codes "annotator") vs))

abbrev pub load_by : Values → Option Asked
load_by vs = option_and_then (λ seed. option_and_then (λ size. option_map (loads seed size) (workers_by vs)) (number_at (codes "SIZE") 1 10000 vs)) (number_at (codes "SEED") 0 4294967295 vs)

-- what a command asks for, where its numbers are in their ranges and the annotator is one that there is
abbrev pub asked_by : Text → Values → Option Asked
asked_by command vs =
    if bytes_eq command (codes "run") then option_map runs (run_by vs)
    else (if bytes_eq command (codes "show") then option_map shows (show_by vs)
    else (if bytes_eq command (codes "code") then Some (codes_of (text_at (codes "FILE") vs)) else load_by vs))
