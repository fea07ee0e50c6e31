-- Which lines `show` puts, and the status that they go with.
use Rattle.std.specs.Prelude.{◌≡◌, ◌<◌, ◌≤◌, ℕ, List, [], ◌∷◌, length, Option, codes}
use Rattle.ap_outside.specs.Files.{HasContent}
use Rattle.ap_term.specs.AtomTable.{fixed_names}
use Rattle.ap_term.specs.Goals.{Program}
use Rattle.ap_clause.specs.Reads.{AcceptsProgram, RefusesProgram}
use Rattle.ap_clause.specs.declared.refusal.Refusal.{Refusal}
use Rattle.ap_patterns.specs.declared.entries.Entries.{Entries}
use Rattle.ap_cge.specs.Printed.{lines_of}
use Rattle.ap_certify.specs.declared.certified.Scope.TheVariants.{Of}
use Rattle.ap_certify.specs.Certificate.{IsSoundAnnotation}
use Rattle.ap_mel.specs.Made.{IsMade}
use Rattle.ap_mel.specs.declared.annotations.Kind.{Kind}
use Rattle.ap_mel.specs.declared.annotations.Kind.TheVariants as kind
use Rattle.ap_words.specs.declared.asked.Annotator.{Annotator}
use Rattle.ap_words.specs.declared.asked.Annotator.TheVariants as annotator
use Rattle.ap_top.specs.Refusals.{refusal_line}
use Rattle.ap_top.specs.Words.{Shown}
use Rattle.ap_top.specs.Patterns.{AreEntries}
use Rattle.ap_top.specs.declared.status.Status.{Status}
use Rattle.ap_top.specs.declared.status.Status.TheVariants.{Done, FileFault, ProgramRefused, EntryRefused}

-- a program with its groups: those at which the passes end, and they are sound
abbrev pub IsAnnotatedAs : Kind → Entries → Program → Program → Type 0
IsAnnotatedAs k E program annotated = IsMade k E program annotated × IsSoundAnnotation program annotated (Of E)

-- its text
abbrev pub IsPrinted : Kind → Entries → Program → List (List ℕ) → List (List ℕ) → Type 0
IsPrinted k E program table lines = (annotated : Program) × IsAnnotatedAs k E program annotated × (lines ≡ lines_of table annotated)

abbrev pub kind_of : Annotator → Kind
kind_of annotator.Mel = kind.Mel
kind_of annotator.Udg = kind.Udg
kind_of annotator.None = kind.None

-- the same for the entries and the groups that are asked for
abbrev pub IsShown : Shown → Program → List (List ℕ) → List (List ℕ) → Type 0
IsShown what program table lines = (E : Entries) × AreEntries what.entry program table E × IsPrinted (kind_of what.groups) E program table lines

-- an accepted program and its table of names
pub data ProgramShows (what : Shown) (program : Program) (table : List (List ℕ)) : Status → List (List ℕ) → Type 0 where
  entry : (lines : List (List ℕ)) → ((E : Entries) → AreEntries what.entry program table E → ⊥) → lines ≡ codes "refused: entry\n" ∷ [] → ProgramShows what program table EntryRefused lines
  shown : (lines : List (List ℕ)) → IsShown what program table lines → ProgramShows what program table Done lines

-- the bytes of a file
pub data TextShows (what : Shown) (bytes : List ℕ) : Status → List (List ℕ) → Type 0 where
  refused : (r : Refusal) (lines : List (List ℕ)) → RefusesProgram bytes fixed_names r → lines ≡ refusal_line fixed_names r ∷ [] → TextShows what bytes ProgramRefused lines
  accepted : (program : Program) (table : List (List ℕ)) (status : Status) (lines : List (List ℕ)) → AcceptsProgram bytes fixed_names program table
      → ProgramShows what program table status lines → TextShows what bytes status lines

-- the file that was asked for
pub data FileShows (what : Shown) (entries : Option (List (List ℕ × List ℕ))) (FilesRose : Type 0) : Status → List (List ℕ) → Type 0 where
  fault : (lines : List (List ℕ)) → FilesRose → lines ≡ codes "fault: file\n" ∷ [] → FileShows what entries FilesRose FileFault lines
  too_long : (lines : List (List ℕ)) → HasContent entries what.file (λ content. 16777216 < length content) → lines ≡ codes "refused: too long\n" ∷ []
      → FileShows what entries FilesRose ProgramRefused lines
  read : (bytes : List ℕ) (status : Status) (lines : List (List ℕ)) → HasContent entries what.file (λ content. content ≡ bytes) → length bytes ≤ 16777216
      → TextShows what bytes status lines → FileShows what entries FilesRose status lines
