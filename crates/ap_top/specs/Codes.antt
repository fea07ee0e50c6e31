-- Which lines `code` puts, and the status that they go with.
use Rattle.std.specs.Prelude.{◌≡◌, ◌<◌, ◌≤◌, ℕ, List, [], ◌∷◌, length, Option, codes}
use Rattle.ap_outside.specs.Files.{HasContent}
use Rattle.ap_term.specs.AtomTable.{fixed_names}
use Rattle.ap_term.specs.Tree.{atom}
use Rattle.ap_term.specs.Goals.{call, Program, Query}
use Rattle.ap_term.specs.declared.fixed.TheConstants.{QUERY, TRUE}
use Rattle.ap_clause.specs.Reads.{AcceptsProgram, RefusesProgram}
use Rattle.ap_clause.specs.declared.refusal.Refusal.{Refusal}
use Rattle.ap_instr.specs.Code.{Compiled}
use Rattle.ap_instr.specs.StandsFor.{StandsForQuery}
use Rattle.ap_codecheck.specs.Rules.{IsSound}
use Rattle.ap_listing.specs.Lines.{listing}
use Rattle.ap_patterns.specs.declared.entries.Entries.TheVariants.{All}
use Rattle.ap_mel.specs.declared.annotations.Kind.TheVariants.{Mel}
use Rattle.ap_top.specs.Shows.{IsAnnotatedAs}
use Rattle.ap_top.specs.Refusals.{refusal_line}
use Rattle.ap_top.specs.TextLines.{text_lines}
use Rattle.ap_top.specs.declared.status.Status.{Status}
use Rattle.ap_top.specs.declared.status.Status.TheVariants.{Done, FileFault, ProgramRefused}

-- the query `true`, which asks nothing of a program
abbrev pub true_query : Query
true_query = record { question = record { head = atom QUERY; body = call (atom TRUE) ∷ []; vars = 0; line = 1 }; lifted = []; names = [] }

-- the listing of sound code that stands for the program beside that query, with the groups that `show` shows
pub record IsListing (program : Program) (table : List (List ℕ)) (text : List ℕ) : Type 0 where
  pub annotated : Program
  pub shown : IsAnnotatedAs Mel All program annotated
  pub code : Compiled
  pub sound : IsSound code
  pub stands : StandsForQuery code annotated true_query
  pub same : text ≡ listing table code

-- the lines of an accepted program's listing, under its table of names
abbrev pub IsListed : Program → List (List ℕ) → List (List ℕ) → Type 0
IsListed program table lines = (text : List ℕ) × IsListing program table text × (lines ≡ text_lines text)

-- the bytes of a file
pub data TextCodes (bytes : List ℕ) : Status → List (List ℕ) → Type 0 where
  refused : (r : Refusal) (lines : List (List ℕ)) → RefusesProgram bytes fixed_names r → lines ≡ refusal_line fixed_names r ∷ [] → TextCodes bytes ProgramRefused lines
  accepted : (program : Program) (table lines : List (List ℕ)) → AcceptsProgram bytes fixed_names program table → IsListed program table lines → TextCodes bytes Done lines

-- the file that was asked for
pub data FileCodes (file : List ℕ) (entries : Option (List (List ℕ × List ℕ))) (FilesRose : Type 0) : Status → List (List ℕ) → Type 0 where
  fault : (lines : List (List ℕ)) → FilesRose → lines ≡ codes "fault: file\n" ∷ [] → FileCodes file entries FilesRose FileFault lines
  too_long : (lines : List (List ℕ)) → HasContent entries file (λ content. 16777216 < length content) → lines ≡ codes "refused: too long\n" ∷ []
      → FileCodes file entries FilesRose ProgramRefused lines
  read : (bytes : List ℕ) (status : Status) (lines : List (List ℕ)) → HasContent entries file (λ content. content ≡ bytes) → length bytes ≤ 16777216
      → TextCodes bytes status lines → FileCodes file entries FilesRose status lines
