-- Statuses of faults, and the counts of calls that end with none of them.
use Rattle.std.proofs.Common.{◌≡◌, ◌≢◌, ℕ, Bool, true, false, List, Option, Result, Ok, Err, IfOk, sym, ◌∙◌, refl, subst, arith}
use Rattle.ap_outside.specs.Pieces.{Puts}
use Rattle.ap_outside.specs.Faults.{Rises}
use Rattle.ap_outside.specs.Halting.{Finishes, SinkCount}
use Rattle.ap_outside.specs.declared.halting.Halt.{Halt}
use Rattle.ap_outside.specs.declared.halting.Halt.TheVariants as halt
use Rattle.ap_top.specs.Counts.{FilesCount, HasNoProgram, RunSinkCount, SourceCount}
use Rattle.ap_top.specs.Status.{status_of, tally}
use Rattle.ap_top.specs.declared.status.Status.{Status}
use Rattle.ap_top.specs.declared.status.Status.TheVariants as status

-- a command line, and nothing outside failed
abbrev pub IsCalm : Status → Type 0
IsCalm s = (s ≢ status.FileFault) × (s ≢ status.SinkFault) × (s ≢ status.SourceFault) × (s ≢ status.Usage)

pub tally_calm : (spent refused : Bool) (s : Status) → s ≡ status_of (tally spent refused) → IsCalm s
tally_calm spent true _ e =
    (λ f. let g : status.QueryRefused ≡ status.FileFault = sym e ∙ f in cc, λ f. let g : status.QueryRefused ≡ status.SinkFault = sym e ∙ f in cc, λ f. let g : status.QueryRefused ≡ status.SourceFault = sym e ∙ f in cc, λ f. let g : status.QueryRefused ≡ status.Usage = sym e ∙ f in cc)
tally_calm true false _ e =
    (λ f. let g : status.BudgetSpent ≡ status.FileFault = sym e ∙ f in cc, λ f. let g : status.BudgetSpent ≡ status.SinkFault = sym e ∙ f in cc, λ f. let g : status.BudgetSpent ≡ status.SourceFault = sym e ∙ f in cc, λ f. let g : status.BudgetSpent ≡ status.Usage = sym e ∙ f in cc)
tally_calm false false _ e =
    (λ f. let g : status.Done ≡ status.FileFault = sym e ∙ f in cc, λ f. let g : status.Done ≡ status.SinkFault = sym e ∙ f in cc, λ f. let g : status.Done ≡ status.SourceFault = sym e ∙ f in cc, λ f. let g : status.Done ≡ status.Usage = sym e ∙ f in cc)

pub tally_found : (spent refused : Bool) (s : Status) → s ≡ status_of (tally spent refused) → HasNoProgram s → ⊥
tally_found spent true s e h = subst HasNoProgram e h
tally_found true false s e h = subst HasNoProgram e h
tally_found false false s e h = subst HasNoProgram e h

-- what holds whatever the status is
pub stays_found : (P : Type 0) → P → (r : Result Status Halt) → IfOk r (λ s. HasNoProgram s → P)
stays_found P p (Ok s) = λ h. p
stays_found P p (Err e) = tt

-- E being the lines that go with a status, of which one goes with no lines
module _ (a b : Option (List (List ℕ))) (E : Status → List (List ℕ) → Type 0) where
  -- files that were read whole
  pub files_kept : ((ls : List (List ℕ)) → E status.FileFault ls → ⊥) → (before now : ℕ) (r : Result Status Halt) → now ≡ before → Finishes a b E r → FilesCount before now r
  files_kept never before now (Err e) same puts = omega (arith, same)
  files_kept never before now (Ok status.FileFault) same puts = absurd (never puts.0 puts.2)
  files_kept never before now (Ok status.Done) same puts = same
  files_kept never before now (Ok status.BudgetSpent) same puts = same
  files_kept never before now (Ok status.Usage) same puts = same
  files_kept never before now (Ok status.ProgramRefused) same puts = same
  files_kept never before now (Ok status.QueryRefused) same puts = same
  files_kept never before now (Ok status.SinkFault) same puts = same
  files_kept never before now (Ok status.SourceFault) same puts = same
  files_kept never before now (Ok status.NoMemory) same puts = same
  files_kept never before now (Ok status.QueriesTooLong) same puts = same
  files_kept never before now (Ok status.EntryRefused) same puts = same

  -- a source that isn't touched
  pub source_kept : ((ls : List (List ℕ)) → E status.SourceFault ls → ⊥) → (count : ℕ) (r : Result Status Halt) → Finishes a b E r → SourceCount count count r
  source_kept never count (Err e) puts = omega arith
  source_kept never count (Ok status.SourceFault) puts = absurd (never puts.0 puts.2)
  source_kept never count (Ok status.FileFault) puts = refl
  source_kept never count (Ok status.Done) puts = refl
  source_kept never count (Ok status.BudgetSpent) puts = refl
  source_kept never count (Ok status.Usage) puts = refl
  source_kept never count (Ok status.ProgramRefused) puts = refl
  source_kept never count (Ok status.QueryRefused) puts = refl
  source_kept never count (Ok status.SinkFault) puts = refl
  source_kept never count (Ok status.NoMemory) puts = refl
  source_kept never count (Ok status.QueriesTooLong) puts = refl
  source_kept never count (Ok status.EntryRefused) puts = refl

  -- a program was found
  pub program_found : (P : Type 0) → ((s : Status) (ls : List (List ℕ)) → E s ls → HasNoProgram s → ⊥) → (r : Result Status Halt) → Finishes a b E r → IfOk r (λ s. HasNoProgram s → P)
  program_found P never (Ok s) puts = λ h. absurd (never s puts.0 puts.2 h)
  program_found P never (Err e) puts = tt

  -- a sink that took all
  pub sink_kept : ((ls : List (List ℕ)) → E status.SinkFault ls → ⊥) → (before now : ℕ) (s : Status) → now ≡ before → Puts a b (E s) → RunSinkCount before now s
  sink_kept never before now status.SinkFault same puts = absurd (never puts.0 puts.2)
  sink_kept never before now status.FileFault same puts = same
  sink_kept never before now status.Done same puts = same
  sink_kept never before now status.BudgetSpent same puts = same
  sink_kept never before now status.Usage same puts = same
  sink_kept never before now status.ProgramRefused same puts = same
  sink_kept never before now status.QueryRefused same puts = same
  sink_kept never before now status.SourceFault same puts = same
  sink_kept never before now status.NoMemory same puts = same
  sink_kept never before now status.QueriesTooLong same puts = same
  sink_kept never before now status.EntryRefused same puts = same

-- ---- halts

pub sink_rose : (T : Type 0) (before now : ℕ) (e : Halt) → e ≡ halt.Sink → SinkCount {T = T} before now (Err e) → Rises before now
sink_rose T before now halt.Sink is count = count
sink_rose T before now halt.NoMemory is count = cc

pub memory_stays : (T : Type 0) (before now : ℕ) (e : Halt) → e ≡ halt.NoMemory → SinkCount {T = T} before now (Err e) → now ≡ before
memory_stays T before now halt.NoMemory is count = count
memory_stays T before now halt.Sink is count = cc
