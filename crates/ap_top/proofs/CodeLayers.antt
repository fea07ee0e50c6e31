-- From what a layer of `code` has put to what the layer above it has put.
use Rattle.std.proofs.Common.{◌≡◌, ◌≢◌, ℕ, ◌<◌, ◌≤◌, List, [], ◌∷◌, length, Option, None, Some, sym, ◌∙◌, ap, subst, codes}
use Rattle.ap_outside.specs.Files.{HasContent}
use Rattle.ap_term.specs.AtomTable.{fixed_names}
use Rattle.ap_term.specs.Goals.{Program}
use Rattle.ap_clause.specs.Reads.{AcceptsProgram, RefusesProgram}
use Rattle.ap_clause.specs.declared.refusal.Refusal.{Refusal}
use Rattle.ap_top.specs.Refusals.{refusal_line}
use Rattle.ap_top.specs.Codes.{IsListed, TextCodes, FileCodes}
use Rattle.ap_top.specs.declared.status.Status.{Status}
use Rattle.ap_top.specs.declared.status.Status.TheVariants as status
use Rattle.ap_top.proofs.Statuses.{IsCalm}

module _ (bytes : List ℕ) (program : Program) (table : List (List ℕ)) (accepts : AcceptsProgram bytes fixed_names program table) where
  pub code_accepted : (names : List (List ℕ)) → names ≡ table → (ls : List (List ℕ)) → IsListed program names ls → TextCodes bytes status.Done ls
  code_accepted names same ls h = TextCodes.accepted program table ls accepts (subst (λ n. IsListed program n ls) same h)

module _ (bytes : List ℕ) (names : List (List ℕ)) (r : Refusal) (same : names ≡ fixed_names) (h : RefusesProgram bytes fixed_names r) where
  pub code_refused : (ls : List (List ℕ)) → ls ≡ refusal_line names r ∷ [] → TextCodes bytes status.ProgramRefused ls
  code_refused ls is = TextCodes.refused r ls h (is ∙ ap (λ t. refusal_line t r ∷ []) same)

module _ (file : List ℕ) (entries : Option (List (List ℕ × List ℕ))) (FilesRose : Type 0) where
  pub code_fault : FilesRose → (s : Status) (ls : List (List ℕ)) → (s ≡ status.FileFault) × (ls ≡ codes "fault: file\n" ∷ []) → FileCodes file entries FilesRose s ls
  code_fault rose s ls h = subst (λ t. FileCodes file entries FilesRose t ls) (sym h.0) (FileCodes.fault ls rose h.1)

  pub code_too_long : HasContent entries file (λ bytes. 16777216 < length bytes) → (s : Status) (ls : List (List ℕ)) → (s ≡ status.ProgramRefused) × (ls ≡ codes "refused: too long\n" ∷ []) → FileCodes file entries FilesRose s ls
  code_too_long has s ls h = subst (λ t. FileCodes file entries FilesRose t ls) (sym h.0) (FileCodes.too_long ls has h.1)

pub code_read : (file : List ℕ) (entries : Option (List (List ℕ × List ℕ))) (FilesRose : Type 0) (bytes : List ℕ) → HasContent entries file (λ content. bytes ≡ content) →
    length bytes ≤ 16777216 → (s : Status) (ls : List (List ℕ)) → TextCodes bytes s ls → FileCodes file entries FilesRose s ls
code_read file None FilesRose bytes has short s ls h = FileCodes.read bytes s ls tt short h
code_read file (Some entries) FilesRose bytes has short s ls h = FileCodes.read bytes s ls (has.0, has.1, sym has.2) short h

-- ---- statuses that a layer doesn't end with

pub code_text_calm : (bytes : List ℕ) (s : Status) (ls : List (List ℕ)) → TextCodes bytes s ls → IsCalm s
code_text_calm bytes _ ls (TextCodes.refused r _ n e) = (λ f. cc, λ f. cc, λ f. cc, λ f. cc)
code_text_calm bytes _ ls (TextCodes.accepted program table _ r p) = (λ f. cc, λ f. cc, λ f. cc, λ f. cc)

pub code_status : (file : List ℕ) (entries : Option (List (List ℕ × List ℕ))) (FilesRose : Type 0) (s : Status) (ls : List (List ℕ)) → FileCodes file entries FilesRose s ls
    → (s ≢ status.SinkFault) × (s ≢ status.SourceFault) × (s ≢ status.Usage)
code_status file entries FilesRose _ ls (FileCodes.fault _ r e) = (λ f. cc, λ f. cc, λ f. cc)
code_status file entries FilesRose _ ls (FileCodes.too_long _ l e) = (λ f. cc, λ f. cc, λ f. cc)
code_status file entries FilesRose _ ls (FileCodes.read bytes s _ told l ends) = let calm = code_text_calm bytes s ls ends in (calm.1, calm.2, calm.3)
