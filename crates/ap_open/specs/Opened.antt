-- Sections that are open, each of which runs the goal of a slot of the one outside of it; and a query's search by them.
use Rattle.std.specs.Prelude.{◌≡◌, ℕ, ◌-◌, List, [], ◌∷◌, Some}
use Rattle.std.specs.List.{AllZip}
use Rattle.ap_term.specs.Tree.{Trees}
use Rattle.ap_term.specs.UpToNames.{SameUpToNames}
use Rattle.ap_term.specs.Search.{State}
use Rattle.ap_core.specs.declared.tasks.Status.TheVariants.{GoingOn}
use Rattle.ap_core.specs.Tasks.{Task}
use Rattle.ap_core.specs.Relation.{Rules, Core}
use Rattle.ap_core.specs.Reached.{Happening, beginning, after_all}
use Rattle.ap_tracked.specs.Tracked.{Tracked}
use Rattle.ap_instr.specs.Code.{Compiled}
use Rattle.ap_tie.specs.Sections.{Section, section, machine_in}
use Rattle.ap_tie.specs.Settled.{HasFailed}
use Rattle.ap_tied.specs.SlotCalls.{RunsSlot}
use Rattle.ap_tied.specs.Ties.{IsSearched, IsTied}

-- a section that is open: its slot that the next section runs, and what that slot's search had spent before this round
pub record Outer : Type 0 where
  pub section : Section
  pub place : ℕ
  pub since : ℕ

-- Outermost first: each section is tied to the task of the slot that it runs, the outermost one to the task itself, and has
-- nothing but its frame left to do. P stands of what runs the last one's slot.
abbrev pub AreOpen : Compiled → Rules → (Tracked → Task → Type 0) → List Outer → Tracked → Task → Type 0
AreOpen code p P [] o t = P o t
AreOpen code p P (a ∷ outer) o t =
    IsSearched code p o × IsTied code p o a.section t × HasFailed (machine_in a.section).roots [] (machine_in a.section)
    × (n : Tracked) × (z : Task) × RunsSlot a.place t n a.since z × AreOpen code p P outer n z

-- the innermost section is tied likewise
abbrev pub OpenTied : Compiled → Rules → Tracked → List Outer → Section → Task → Type 0
OpenTied code p o outer s t = AreOpen code p (λ n z. IsSearched code p n × IsTied code p n s z) outer o t

-- Some events lead the core from the beginning of q, with that budget, to a task to which the open sections are tied; what it
-- has emitted by then is what was given, up to names.
pub record IsSolving (code : Compiled) (p : Rules) (o : Tracked) (q : State) (rest : ℕ) (outer : List Outer) (s : Section) (given : List Trees) : Type 0 where
  pub events : List Happening
  pub core : Core
  pub led : after_all events (beginning p q rest) ≡ Some core
  pub rules : core.rules ≡ p
  pub going : core.status ≡ GoingOn
  pub opened : OpenTied code p o outer s core.root
  pub emitted : AllZip SameUpToNames given core.emitted

-- whatever search the one sections make, the others make it
abbrev pub Keeps : Compiled → List Outer → Section → List Outer → Section → Type 0
Keeps code outer s outer' s' =
    (p : Rules) (o : Tracked) (q : State) (rest : ℕ) (given : List Trees) → IsSolving code p o q rest outer s given → IsSolving code p o q rest outer' s' given

-- ---- sections by their counts

abbrev pub spent_in : Section → ℕ
spent_in (section m c b st) = c

abbrev pub rest_in : Section → ℕ
rest_in (section m c b st) = b - c
