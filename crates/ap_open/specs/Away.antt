-- Goals of open sections that run elsewhere.
use Rattle.std.specs.Prelude.{◌≡◌, ℕ, ◌<◌, ◌==◌, Bool, not, List, [], ◌∷◌, slice_get, Some, true, false}
use Rattle.std.specs.List.{AllByRecursion, AllZip, filter}
use Rattle.ap_term.specs.Tree.{Tree, Trees}
use Rattle.ap_term.specs.UpToNames.{SameUpToNames}
use Rattle.ap_term.specs.Vars.{Local}
use Rattle.ap_term.specs.Search.{State}
use Rattle.ap_laws.specs.Graft.{arguments}
use Rattle.ap_core.specs.declared.tasks.Status.TheVariants.{GoingOn}
use Rattle.ap_core.specs.Tasks.{Task}
use Rattle.ap_core.specs.Conditions.{is_exhausted, spent_by}
use Rattle.ap_core.specs.Relation.{Rules, Core, has_spent}
use Rattle.ap_core.specs.Reached.{Happening, beginning, after_all}
use Rattle.ap_frames.specs.declared.slots.Stand.TheVariants.{Ended}
use Rattle.ap_frames.specs.declared.slots.Ending.TheVariants as ending
use Rattle.ap_frames.specs.Rows.{stopped}
use Rattle.ap_tracked.specs.Tracked.{Tracked}
use Rattle.ap_tracked.specs.Forks.{alone}
use Rattle.ap_instr.specs.declared.compiled.Predicate.{Predicate}
use Rattle.ap_instr.specs.Code.{Compiled}
use Rattle.ap_instr.specs.Runs.{applied}
use Rattle.ap_tie.specs.Sections.{Section, nothing, held, machine_in}
use Rattle.ap_tie.specs.Settled.{HasFailed}
use Rattle.ap_tied.specs.Happened.{happened}
use Rattle.ap_tied.specs.Reaching.{whole}
use Rattle.ap_tied.specs.SlotCalls.{RunsSlot, stood, answered}
use Rattle.ap_tied.specs.Ties.{IsSearched, IsTied}
use Rattle.ap_open.specs.Opened.{spent_in, rest_in}
use Rattle.ap_open.specs.Calling.{IsAnswering, HasMore}

-- ---- goals

-- what is asked of whoever runs a goal: its predicate's number, its arguments, and how much it may spend
pub record Key : Type 0 where
  pub predicate : ℕ
  pub tuple : Trees
  pub rest : ℕ

-- the goal is that one, up to names
pub record IsGoalOf (code : Compiled) (key : Key) (g : Tree) (n : ℕ) : Type 0 where
  pub predicate : Predicate
  pub known : slice_get code.predicates key.predicate ≡ Some predicate
  pub named : g ≡ applied predicate.name (arguments g)
  pub same : SameUpToNames key.tuple (arguments g)
  pub below : Local (λ x. x < n) g

-- a goal that is away, by its slot
pub record Away : Type 0 where
  pub place : ℕ
  pub key : Key

-- nothing has happened to that slot's task since it began
abbrev pub RunsWhole : Compiled → Rules → Task → Away → Type 0
RunsWhole code p t a = (g : Tree) × (n : ℕ) × IsGoalOf code a.key g n × IsSearched code p (alone g n) × RunsSlot a.place t (alone g n) 0 (whole a.key.rest (alone g n))

abbrev pub AreAway : Compiled → Rules → List Away → Task → Type 0
AreAway code p aways t = AllByRecursion (RunsWhole code p t) aways

-- without that of slot i
abbrev pub without : ℕ → List Away → List Away
without i aways = filter (λ a. not (a.place == i)) aways

-- none of them is of slot i
abbrev pub AreElsewhere : ℕ → List Away → Type 0
AreElsewhere i aways = AllByRecursion (λ a. a.place ≡ i → ⊥) aways

-- ---- open sections with goals away

-- a section that is open: its slot that the next section runs, what that slot's search had spent before this round, and its
-- goals that are away
pub record Level : Type 0 where
  pub section : Section
  pub place : ℕ
  pub since : ℕ
  pub aways : List Away

-- As sections that are open; beside the slot that the next section runs there are those that are away.
abbrev pub AreBeside : Compiled → Rules → (Tracked → Task → Type 0) → List Level → Tracked → Task → Type 0
AreBeside code p P [] o t = P o t
AreBeside code p P (a ∷ levels) o t =
    IsSearched code p o × IsTied code p o a.section t × HasFailed (machine_in a.section).roots [] (machine_in a.section)
    × AreElsewhere a.place a.aways × AreAway code p a.aways t × (n : Tracked) × (z : Task) × RunsSlot a.place t n a.since z × AreBeside code p P levels n z

abbrev pub TiedBeside : Compiled → Rules → Section → List Away → Tracked → Task → Type 0
TiedBeside code p s aways n z = IsSearched code p n × IsTied code p n s z × AreAway code p aways z

-- the innermost section may have goals away, too
abbrev pub OpenBeside : Compiled → Rules → Tracked → List Level → Section → List Away → Task → Type 0
OpenBeside code p o levels s aways t = AreBeside code p (TiedBeside code p s aways) levels o t

-- whatever task the one sections are tied to, events lead it to one that the others are tied to
abbrev pub Carries : Compiled → List Level → Section → List Away → List Level → Section → List Away → Type 0
Carries code levels s aways levels' s' aways' =
    (p : Rules) (o : Tracked) (t : Task) → OpenBeside code p o levels s aways t
    → (es : List Happening) × (u : Task) × (happened p es t ≡ Some u) × OpenBeside code p o levels' s' aways' u

-- ---- searches

-- the search of a goal that was taken from elsewhere, or of any other beginning
pub record IsSearch (code : Compiled) (p : Rules) (o : Tracked) (rest : ℕ) (levels : List Level) (s : Section) (aways : List Away) : Type 0 where
  pub events : List Happening
  pub task : Task
  pub led : happened p events (whole rest o) ≡ Some task
  pub opened : OpenBeside code p o levels s aways task

-- that of a query, which has given some answers
pub record IsSolvingBeside (code : Compiled) (p : Rules) (o : Tracked) (q : State) (rest : ℕ) (levels : List Level) (s : Section) (aways : List Away) (given : List Trees) : Type 0 where
  pub events : List Happening
  pub core : Core
  pub led : after_all events (beginning p q rest) ≡ Some core
  pub rules : core.rules ≡ p
  pub going : core.status ≡ GoingOn
  pub opened : OpenBeside code p o levels s aways core.root
  pub emitted : AllZip SameUpToNames given core.emitted

-- ---- what comes back

-- an answer with the section that found it, its cost, and whether the goal has another one; or how it ended, with its cost
pub data Outcome : Type 0 where
  found : Section → ℕ → Bool → Outcome
  failed_at : ℕ → Outcome
  spent_all : Outcome
  stopped_at : ℕ → Outcome
  given_back : Outcome

-- the goal alone comes to that, by some events
abbrev pub Comes : Rules → ℕ → Tree → ℕ → Task → Type 0
Comes p rest g n z = (es : List Happening) × (happened p es (whole rest (alone g n)) ≡ Some z)

abbrev pub FitsAs : Compiled → ℕ → Rules → Tree → ℕ → Outcome → Type 0
FitsAs code rest p g n (found s cost more) = (z : Task) × Comes p rest g n z × IsTied code p (alone g n) s z × IsAnswering s × HasMore code s more × (cost ≡ spent_in s)
FitsAs code rest p g n (failed_at cost) = (z : Task) × Comes p rest g n z × (is_exhausted z ≡ true) × (cost ≡ spent_by z)
FitsAs code rest p g n spent_all = (z : Task) × Comes p rest g n z × (has_spent p.loud z ≡ true)
FitsAs code rest p g n (stopped_at cost) = (z : Task) × Comes p rest g n z × (cost ≡ spent_by z)
FitsAs code rest p g n given_back = Unit {0}

-- of the goal of a key, whatever its names are
abbrev pub IsOutcomeOf : Compiled → Key → Outcome → Type 0
IsOutcomeOf code key e = (p : Rules) (g : Tree) (n : ℕ) → IsGoalOf code key g n → IsSearched code p (alone g n) → FitsAs code key.rest p g n e

-- slot i stands as the outcome says
abbrev pub returned : ℕ → Outcome → Section → Section
returned i (found a cost more) s = stood i (answered cost more) (held a) s
returned i (failed_at cost) s = stood i (Ended ending.Failed cost) nothing s
returned i spent_all s = stood i (Ended ending.Spent (rest_in s)) nothing s
returned i (stopped_at cost) s = stood i (stopped (Unit {0}) true cost) nothing s
returned i given_back s = stood i (stopped (Unit {0}) false 0) nothing s
