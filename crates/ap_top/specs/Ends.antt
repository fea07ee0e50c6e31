-- Which lines go with which status: from the source's bytes up to the command line. `SourceRose` and `FilesRose` say
-- that the count of faults of that object rose in the run.
use Rattle.std.specs.Prelude.{◌≡◌, true, false, ◌<◌, ◌≤◌, ℕ, List, [], ◌∷◌, ◌++◌, length, Option, None, Some, codes, ⊤, ◌⊎◌}
use Rattle.std.specs.Io.KnownBytes.{Consumes}
use Rattle.ap_outside.specs.Files.{HasContent, content_of}
use Rattle.ap_outside.specs.Halting.{AnyOf}
use Rattle.ap_outside.specs.Pieces.{FrontOf, CutOf}
use Rattle.ap_term.specs.AtomTable.{fixed_names}
use Rattle.ap_term.specs.Goals.{Program}
use Rattle.ap_clause.specs.Reads.{AcceptsProgram, RefusesProgram}
use Rattle.ap_clause.specs.declared.refusal.Refusal.{Refusal}
use Rattle.ap_top.specs.Output.{IsOutput, judged}
use Rattle.ap_top.specs.Refusals.{refusal_line}
use Rattle.ap_patterns.specs.declared.entries.Entries.{Entries}
use Rattle.ap_words.specs.Asked.{codes_of, loads, runs, shows}
use Rattle.ap_words.specs.Reading.{IsRead, Reading, asks, help, usage, version}
use Rattle.ap_words.specs.declared.help.TheConstants.{HELP, VERSION_LINE}
use Rattle.ap_top.specs.Words.{Asked, IsCode, IsCommand, IsShow, Shown}
use Rattle.ap_top.specs.Patterns.{AreEntries}
use Rattle.ap_top.specs.Shows.{FileShows}
use Rattle.ap_top.specs.Codes.{FileCodes}
use Rattle.ap_top.specs.Loads.{LoadEnds}
use Rattle.ap_top.specs.TextLines.{text_lines}
use Rattle.ap_top.specs.Status.{status_of}
use Rattle.ap_top.specs.declared.status.Tally.{Tally}
use Rattle.ap_top.specs.declared.status.Status.{Status}
use Rattle.ap_top.specs.declared.status.Status.TheVariants.{Done, BudgetSpent, QueryRefused, Usage, FileFault, ProgramRefused, SinkFault, SourceFault, NoMemory, QueriesTooLong}

-- these are the bytes, where bytes are told
abbrev pub IsTold : Option (List ℕ) → List ℕ → Type 0
IsTold None bytes = ⊤
IsTold (Some told) bytes = told ≡ bytes

-- these are the first of the bytes, where bytes are told
abbrev pub IsTaken : Option (List ℕ) → List ℕ → Type 0
IsTaken None bytes = ⊤
IsTaken (Some told) bytes = (rest : List ℕ) × (told ≡ bytes ++ rest)

-- the source failed when these bytes were taken: they and what is left make up what was left before
abbrev pub FailsBehind : Option (List ℕ) → Option (List ℕ) → Type 0 → List ℕ → Type 0
FailsBehind before left SourceRose taken = SourceRose × Consumes before left taken

-- A source, over an accepted program and its table of names: what was taken before a fault (`Fails` tells of what) is
-- answered as far as its pieces had ended.
pub data SourceEnds (what : Asked) (program : Program) (table : List (List ℕ)) (source : Option (List ℕ)) (Fails : List ℕ → Type 0) : Status → List (List ℕ) → Type 0 where
  fault : (taken : List ℕ) (t : Tally) (blocks lines : List (List ℕ)) → Fails taken → length taken ≤ 16777216
      → IsOutput what.budget what.answers program table taken (judged false taken) t blocks → lines ≡ blocks ++ codes "fault: source\n" ∷ []
      → SourceEnds what program table source Fails SourceFault lines
  too_long : (input : List ℕ) (lines : List (List ℕ)) → IsTold source input → 16777216 < length input → lines ≡ codes "refused: queries too long\n" ∷ []
      → SourceEnds what program table source Fails QueriesTooLong lines
  read : (input : List ℕ) (t : Tally) (status : Status) (lines : List (List ℕ)) → IsTold source input → length input ≤ 16777216
      → IsOutput what.budget what.answers program table input (judged true input) t lines → status ≡ status_of t → SourceEnds what program table source Fails status lines

-- the bytes of a file
pub data TextEnds (what : Asked) (bytes : List ℕ) (source : Option (List ℕ)) (Fails : List ℕ → Type 0) : Status → List (List ℕ) → Type 0 where
  refused : (r : Refusal) (lines : List (List ℕ)) → RefusesProgram bytes fixed_names r → lines ≡ refusal_line fixed_names r ∷ [] → TextEnds what bytes source Fails ProgramRefused lines
  accepted : (program : Program) (table : List (List ℕ)) (status : Status) (lines : List (List ℕ)) → AcceptsProgram bytes fixed_names program table
      → SourceEnds what program table source Fails status lines → TextEnds what bytes source Fails status lines

-- the file that was asked for
pub data FileEnds (what : Asked) (entries : Option (List (List ℕ × List ℕ))) (source : Option (List ℕ)) (FilesRose : Type 0) (Fails : List ℕ → Type 0) : Status → List (List ℕ) → Type 0 where
  fault : (lines : List (List ℕ)) → FilesRose → lines ≡ codes "fault: file\n" ∷ [] → FileEnds what entries source FilesRose Fails FileFault lines
  too_long : (lines : List (List ℕ)) → HasContent entries what.file (λ content. 16777216 < length content) → lines ≡ codes "refused: too long\n" ∷ []
      → FileEnds what entries source FilesRose Fails ProgramRefused lines
  read : (bytes : List ℕ) (status : Status) (lines : List (List ℕ)) → HasContent entries what.file (λ content. content ≡ bytes) → length bytes ≤ 16777216
      → TextEnds what bytes source Fails status lines → FileEnds what entries source FilesRose Fails status lines

-- what a command line is read as
pub data AskedEnds (r : Reading) (entries : Option (List (List ℕ × List ℕ))) (source : Option (List ℕ)) (FilesRose : Type 0) (Fails : List ℕ → Type 0) : Status → List (List ℕ) → Type 0 where
  unasked : (lines : List (List ℕ)) → r ≡ usage → lines ≡ codes "usage: andprolog run FILE | show FILE | code FILE | load SEED SIZE\n" ∷ [] → AskedEnds r entries source FilesRose Fails Usage lines
  helped : (lines : List (List ℕ)) → r ≡ help → lines ≡ text_lines HELP.now → AskedEnds r entries source FilesRose Fails Done lines
  versioned : (lines : List (List ℕ)) → r ≡ version → lines ≡ text_lines VERSION_LINE.now → AskedEnds r entries source FilesRose Fails Done lines
  ran : (what : Asked) (status : Status) (lines : List (List ℕ)) → r ≡ asks (runs what) → FileEnds what entries source FilesRose Fails status lines → AskedEnds r entries source FilesRose Fails status lines
  shown : (what : Shown) (status : Status) (lines : List (List ℕ)) → r ≡ asks (shows what) → FileShows what entries FilesRose status lines → AskedEnds r entries source FilesRose Fails status lines
  coded : (file : List ℕ) (status : Status) (lines : List (List ℕ)) → r ≡ asks (codes_of file) → FileCodes file entries FilesRose status lines → AskedEnds r entries source FilesRose Fails status lines
  loaded : (seed size workers : ℕ) (status : Status) (lines : List (List ℕ)) → r ≡ asks (loads seed size workers) → LoadEnds seed size status lines → AskedEnds r entries source FilesRose Fails status lines

-- a command line
pub data WordsEnd (words : List (List ℕ)) (entries : Option (List (List ℕ × List ℕ))) (source : Option (List ℕ)) (FilesRose : Type 0) (Fails : List ℕ → Type 0) : Status → List (List ℕ) → Type 0 where
  read : (r : Reading) (status : Status) (lines : List (List ℕ)) → IsRead words r → AskedEnds r entries source FilesRose Fails status lines → WordsEnd words entries source FilesRose Fails status lines

-- the same, where the source's count rose and what was taken is some beginning of it
abbrev pub RunEnds : List (List ℕ) → Option (List (List ℕ × List ℕ)) → Option (List ℕ) → Type 0 → Type 0 → Status → List (List ℕ) → Type 0
RunEnds words entries source FilesRose SourceRose status lines = WordsEnd words entries source FilesRose (λ taken. SourceRose × IsTaken source taken) status lines

-- the line that says that memory was wanting, or nothing, where memory was wanting for that too
abbrev pub SaysNoMemory : List (List ℕ) → Type 0
SaysNoMemory lines = (lines ≡ codes "no memory\n" ∷ []) ⊎ (lines ≡ [])

-- the first lines of a run, and then that memory was wanting
abbrev pub GaveUp : (Status → List (List ℕ) → Type 0) → List (List ℕ) → Type 0
GaveUp E lines = (front said : List (List ℕ)) × (lines ≡ front ++ said) × FrontOf (AnyOf E) front × SaysNoMemory said

-- What a whole run has put, E being the lines that go with a status where memory is ample and the sink takes all.
pub data Whole (E : Status → List (List ℕ) → Type 0) : Status → List (List ℕ) → Type 0 where
  ends : (status : Status) (lines : List (List ℕ)) → E status lines → Whole E status lines
  no_memory : (lines : List (List ℕ)) → GaveUp E lines → Whole E NoMemory lines
  sink : (pieces : List (List ℕ)) → CutOf (AnyOf E) pieces → Whole E SinkFault pieces
  sink_at_no_memory : (pieces : List (List ℕ)) → CutOf (GaveUp E) pieces → Whole E SinkFault pieces

-- the files tell that the file of that name has these bytes
abbrev pub IsFile : Option (List (List ℕ × List ℕ)) → List ℕ → List ℕ → Type 0
IsFile None name bytes = ⊥
IsFile (Some entries) name bytes = content_of entries name ≡ Some bytes

-- where nothing outside failed, a command line that names a program ends so
abbrev pub IsAnswering : Status → Type 0
IsAnswering Done = ⊤
IsAnswering BudgetSpent = ⊤
IsAnswering QueryRefused = ⊤
IsAnswering QueriesTooLong = ⊤
IsAnswering NoMemory = ⊤
IsAnswering _ = ⊥

-- a command line names a program, as the files tell
pub record NamesProgram (words : List (List ℕ)) (entries : Option (List (List ℕ × List ℕ))) : Type 0 where
  pub what : Asked
  pub bytes : List ℕ
  pub program : Program
  pub table : List (List ℕ)
  pub command : IsCommand words what
  pub file : IsFile entries what.file bytes
  pub short : length bytes ≤ 16777216
  pub accepted : AcceptsProgram bytes fixed_names program table

-- where nothing outside failed, a command line that shows a program for an entry, or its code, ends so
abbrev pub IsShowing : Status → Type 0
IsShowing Done = ⊤
IsShowing NoMemory = ⊤
IsShowing _ = ⊥

-- a command line shows a program, as the files tell, for an entry that is a pattern of one of its predicates
pub record ShowsProgram (words : List (List ℕ)) (entries : Option (List (List ℕ × List ℕ))) : Type 0 where
  pub what : Shown
  pub bytes : List ℕ
  pub program : Program
  pub table : List (List ℕ)
  pub calls : Entries
  pub command : IsShow words what
  pub file : IsFile entries what.file bytes
  pub short : length bytes ≤ 16777216
  pub accepted : AcceptsProgram bytes fixed_names program table
  pub entry : AreEntries what.entry program table calls

-- a command line asks for the code of a program, as the files tell
pub record CodesProgram (words : List (List ℕ)) (entries : Option (List (List ℕ × List ℕ))) : Type 0 where
  pub wanted : List ℕ
  pub bytes : List ℕ
  pub program : Program
  pub table : List (List ℕ)
  pub command : IsCode words wanted
  pub file : IsFile entries wanted bytes
  pub short : length bytes ≤ 16777216
  pub accepted : AcceptsProgram bytes fixed_names program table
