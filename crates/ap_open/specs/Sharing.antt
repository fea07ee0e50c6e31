-- Moves and calls of open sections whose goals may be away.
use Rattle.std.specs.Prelude.{◌≡◌, ℕ, ◌-◌, Bool, true, List, [], ◌∷◌, ◌++◌, Some}
use Rattle.ap_term.specs.Tree.{Tree, Trees}
use Rattle.ap_term.specs.Search.{State}
use Rattle.ap_core.specs.Relation.{Rules}
use Rattle.ap_frames.specs.declared.slots.Stand.TheVariants.{Running, Ended}
use Rattle.ap_frames.specs.declared.slots.Run.TheVariants as runs
use Rattle.ap_frames.specs.declared.slots.Ending.TheVariants as ending
use Rattle.ap_frames.specs.Rows.{stopped}
use Rattle.ap_frames.specs.Slots.{may_be_given_back}
use Rattle.ap_tracked.specs.Tracked.{Tracked}
use Rattle.ap_tracked.specs.Forks.{alone}
use Rattle.ap_instr.specs.Code.{Compiled}
use Rattle.ap_standing.specs.Machine.{Machine}
use Rattle.ap_standing.specs.Holds.{Holds}
use Rattle.ap_tie.specs.Sections.{Row, Section, section, bottom, parcall, nothing, held, machine_in}
use Rattle.ap_tie.specs.Settled.{HasFailed}
use Rattle.ap_tied.specs.SlotCalls.{stood, row_in, answered, gone_on}
use Rattle.ap_tied.specs.Ties.{IsSearched, Goes}
use Rattle.ap_open.specs.Opened.{IsSolving, spent_in, rest_in}
use Rattle.ap_open.specs.Moving.{HasAnsweredAgain, restarted}
use Rattle.ap_open.specs.Calling.{MayBegin, IsGoalIn, begun_at, MayRedo, redone_at, IsAnswering, HasMore, IsDone, IsSpent}
use Rattle.ap_open.specs.Away.{Key, IsGoalOf, Away, without, Level, Carries, IsSearch, IsSolvingBeside, Outcome, found, failed_at, spent_all, stopped_at, given_back, FitsAs, IsOutcomeOf, returned}

-- the section whose slot i another section runs, with the goals of it that are away
abbrev pub begun_beside : ℕ → Section → List Away → Level
begun_beside i s aways = record { section = (begun_at i s).section; place = i; since = 0; aways = aways }

abbrev pub redone_beside : ℕ → Section → Section → Level
redone_beside i a s = record { section = (redone_at i a s).section; place = i; since = spent_in a; aways = [] }

-- the key is for the goal of slot i, with all that is left
pub record IsKeyOf (code : Compiled) (i : ℕ) (s : Section) (key : Key) : Type 0 where
  pub goal : (g : Tree) (n : ℕ) → IsGoalIn code i s g n → IsGoalOf code key g n
  pub rest : key.rest ≡ rest_in s

-- slot i may be given back: it wasn't redone
abbrev pub MayReturn : ℕ → Outcome → Section → Type 0
MayReturn i given_back (section m c b bottom) = ⊥
MayReturn i given_back (section m c b (parcall f q rd w qs st)) = (x : Row) × (row_in i w ≡ Some x) × (may_be_given_back x ≡ true)
MayReturn i _ s = Unit {0}

-- the outermost section
abbrev pub first_of : List Level → Section → Section
first_of [] s = s
first_of (a ∷ levels) s = a.section

pub record SharingLaw : Type 0 where
  pub stays : (code : Compiled) (levels : List Level) (s : Section) (aways : List Away) → Carries code levels s aways levels s aways
  -- whatever the section is tied to, it goes so; none of its goals is away
  pub moves : (code : Compiled) (levels : List Level) (s s' : Section) → Goes code s s' → Carries code levels s [] levels s' []
  pub restarts : (code : Compiled) (levels : List Level) (s : Section) (aways : List Away) (i : ℕ) → HasAnsweredAgain i s → Carries code levels s aways levels (restarted i s) aways
  -- a section of one's own for the goal of a slot that is ready
  pub begins : (code : Compiled) (levels : List Level) (s : Section) (aways : List Away) (i : ℕ) (fresh : Machine) → MayBegin i s
      → ((p : Rules) (o : Tracked) → IsSearched code p o → (g : Tree) (n : ℕ) → IsGoalIn code i s g n → Holds code fresh (alone g n ∷ []))
      → Carries code levels s aways (levels ++ begun_beside i s aways ∷ []) (section fresh 0 (rest_in s) bottom) []
  pub redoes : (code : Compiled) (levels : List Level) (s a : Section) (i : ℕ) → MayRedo i a s → Carries code levels s [] (levels ++ redone_beside i a s ∷ []) (gone_on (rest_in s) a) []
  -- it ends
  pub answers : (code : Compiled) (levels : List Level) (a : Level) (s : Section) (more : Bool) → IsAnswering s → HasMore code s more
      → Carries code (levels ++ a ∷ []) s [] levels (stood a.place (answered (spent_in s - a.since) more) (held s) a.section) a.aways
  pub fails : (code : Compiled) (levels : List Level) (a : Level) (s : Section) → IsDone s
      → Carries code (levels ++ a ∷ []) s [] levels (stood a.place (Ended ending.Failed (spent_in s - a.since)) nothing a.section) a.aways
  pub spends : (code : Compiled) (levels : List Level) (a : Level) (s : Section) → IsSpent code s
      → Carries code (levels ++ a ∷ []) s [] levels (stood a.place (Ended ending.Spent (rest_in a.section)) nothing a.section) a.aways
  -- the goal of a slot that is ready goes away, and comes back
  pub leaves : (code : Compiled) (levels : List Level) (s : Section) (aways : List Away) (i : ℕ) (key : Key) → MayBegin i s → IsKeyOf code i s key
      → Carries code levels s aways levels (stood i (Running runs.First) nothing s) (aways ++ record { place = i; key = key } ∷ [])
  -- the same at a section that isn't the innermost one
  pub leaves_below : (code : Compiled) (levels after : List Level) (a : Level) (s : Section) (aways : List Away) (i : ℕ) (key : Key) → MayBegin i a.section → IsKeyOf code i a.section key
      → Carries code (levels ++ a ∷ after) s aways
      (levels ++ record { section = stood i (Running runs.First) nothing a.section; place = a.place; since = a.since; aways = a.aways ++ record { place = i; key = key } ∷ [] } ∷ after) s aways
  pub comes_back : (code : Compiled) (levels : List Level) (s : Section) (before behind : List Away) (a : Away) (e : Outcome)
      → HasFailed (machine_in s).roots [] (machine_in s) → IsOutcomeOf code a.key e → MayReturn a.place e s
      → Carries code levels s (before ++ a ∷ behind) levels (returned a.place e s) (without a.place (before ++ behind))
  -- the same at a section that isn't the innermost one
  pub comes_back_below : (code : Compiled) (levels after : List Level) (a : Level) (s : Section) (aways before behind : List Away) (w : Away) (e : Outcome)
      → a.aways ≡ before ++ w ∷ behind → IsOutcomeOf code w.key e → MayReturn w.place e a.section
      → Carries code (levels ++ a ∷ after) s aways
      (levels ++ record { section = returned w.place e a.section; place = a.place; since = a.since; aways = without w.place (before ++ behind) } ∷ after) s aways
  -- the search of a section's slot is given up, as that was asked to stop; all that is within it goes
  pub abandons : (code : Compiled) (levels after : List Level) (a : Level) (s : Section) (aways : List Away)
      → Carries code (levels ++ a ∷ after) s aways levels (stood a.place (stopped (Unit {0}) true (spent_in (first_of after s) - a.since)) nothing a.section) a.aways

-- Searches that go on so, where they begin, and what a goal's own comes to.
pub record OutcomeLaw : Type 0 where
  pub searches : (code : Compiled) (p : Rules) (o : Tracked) (rest : ℕ) (levels levels' : List Level) (s s' : Section) (aways aways' : List Away) → Carries code levels s aways levels' s' aways'
      → IsSearch code p o rest levels s aways → IsSearch code p o rest levels' s' aways'
  pub solves : (code : Compiled) (p : Rules) (o : Tracked) (q : State) (rest : ℕ) (levels levels' : List Level) (s s' : Section) (aways aways' : List Away) (given : List Trees)
      → Carries code levels s aways levels' s' aways' → IsSolvingBeside code p o q rest levels s aways given → IsSolvingBeside code p o q rest levels' s' aways' given
  -- where nothing is away the search of a query by its own section is one
  pub alone_is : (code : Compiled) (p : Rules) (o : Tracked) (q : State) (rest : ℕ) (s : Section) (given : List Trees) → IsSolvingBeside code p o q rest [] s [] given → IsSolving code p o q rest [] s given
  pub beside_is : (code : Compiled) (p : Rules) (o : Tracked) (q : State) (rest : ℕ) (s : Section) (given : List Trees) → IsSolving code p o q rest [] s given → IsSolvingBeside code p o q rest [] s [] given
  pub begun : (code : Compiled) (p : Rules) (g : Tree) (n : ℕ) (m : Machine) (rest : ℕ) → IsSearched code p (alone g n) → Holds code m (alone g n ∷ []) → IsSearch code p (alone g n) rest [] (section m 0 rest bottom) []
  pub answers : (code : Compiled) (p : Rules) (g : Tree) (n rest : ℕ) (s : Section) (more : Bool) → IsSearch code p (alone g n) rest [] s [] → IsAnswering s → HasMore code s more → FitsAs code rest p g n (found s (spent_in s) more)
  pub fails : (code : Compiled) (p : Rules) (g : Tree) (n rest : ℕ) (s : Section) → IsSearch code p (alone g n) rest [] s [] → IsDone s → FitsAs code rest p g n (failed_at (spent_in s))
  pub spends : (code : Compiled) (p : Rules) (g : Tree) (n rest : ℕ) (s : Section) → IsSearch code p (alone g n) rest [] s [] → IsSpent code s → FitsAs code rest p g n spent_all
  -- whatever it is at: with what its outermost section has spent
  pub stops : (code : Compiled) (p : Rules) (g : Tree) (n rest : ℕ) (s : Section) (aways : List Away) → IsSearch code p (alone g n) rest [] s aways → FitsAs code rest p g n (stopped_at (spent_in s))
  pub stops_within : (code : Compiled) (p : Rules) (g : Tree) (n rest : ℕ) (a : Level) (levels : List Level) (s : Section) (aways : List Away) → IsSearch code p (alone g n) rest (a ∷ levels) s aways
      → FitsAs code rest p g n (stopped_at (spent_in a.section))
