-- Which status shows that a count of faults rose, and which leaves it.
use Rattle.std.specs.Prelude.{◌≡◌, ℕ, ◌≤◌, Result, Ok, Err, Option, List, ⊤}
use Rattle.std.specs.Io.KnownBytes.{IsAtEnd}
use Rattle.ap_outside.specs.Faults.{Rises}
use Rattle.ap_outside.specs.declared.halting.Halt.{Halt}
use Rattle.ap_top.specs.declared.status.Status.{Status}
use Rattle.ap_top.specs.declared.status.Status.TheVariants as status

-- the counts over a call that ends with a status or halts
abbrev pub SourceCount : ℕ → ℕ → Result Status Halt → Type 0
SourceCount before now (Ok status.SourceFault) = Rises before now
SourceCount before now (Ok _) = now ≡ before
SourceCount before now (Err _) = before ≤ now

abbrev pub FilesCount : ℕ → ℕ → Result Status Halt → Type 0
FilesCount before now (Ok status.FileFault) = Rises before now
FilesCount before now (Ok _) = now ≡ before
FilesCount before now (Err _) = before ≤ now

-- the counts over a run: the status of the sink's fault goes before that of want of memory, and that before the others
abbrev pub RunSinkCount : ℕ → ℕ → Status → Type 0
RunSinkCount before now status.SinkFault = Rises before now
RunSinkCount before now _ = now ≡ before

abbrev pub RunSourceCount : ℕ → ℕ → Status → Type 0
RunSourceCount before now status.SourceFault = Rises before now
RunSourceCount before now status.SinkFault = before ≤ now
RunSourceCount before now status.NoMemory = before ≤ now
RunSourceCount before now _ = now ≡ before

abbrev pub RunFilesCount : ℕ → ℕ → Status → Type 0
RunFilesCount before now status.FileFault = Rises before now
RunFilesCount before now status.SinkFault = before ≤ now
RunFilesCount before now status.NoMemory = before ≤ now
RunFilesCount before now _ = now ≡ before

-- a source that was read to its end has nothing left
abbrev pub RunEndsSource : Option (List ℕ) → Status → Type 0
RunEndsSource left status.Done = IsAtEnd left
RunEndsSource left status.BudgetSpent = IsAtEnd left
RunEndsSource left status.QueryRefused = IsAtEnd left
RunEndsSource left _ = ⊤

abbrev pub EndsSource : Option (List ℕ) → Result Status Halt → Type 0
EndsSource left (Ok s) = RunEndsSource left s
EndsSource left (Err _) = ⊤

-- a run that ends so has found no program in its file
abbrev pub HasNoProgram : Status → Type 0
HasNoProgram status.FileFault = ⊤
HasNoProgram status.ProgramRefused = ⊤
HasNoProgram _ = ⊥
