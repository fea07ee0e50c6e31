-- How a section is opened for a slot, and ends for it.
use Rattle.std.specs.Prelude.{◌≡◌, ℕ, ◌-◌, ◌<◌, ◌≤◌, ◌⊎◌, Bool, true, false, List, [], ◌∷◌, ◌++◌, Some}
use Rattle.ap_term.specs.Tree.{Tree}
use Rattle.ap_core.specs.Relation.{Rules}
use Rattle.ap_frames.specs.declared.frame.Round.TheVariants.{Later, Closed}
use Rattle.ap_frames.specs.declared.slots.Stand.TheVariants.{Running, Ended}
use Rattle.ap_frames.specs.declared.slots.Run.TheVariants as runs
use Rattle.ap_frames.specs.declared.slots.Ending.TheVariants as ending
use Rattle.ap_frames.specs.declared.verdict.Verdict.TheVariants as verdict
use Rattle.ap_frames.specs.Slots.{is_startable}
use Rattle.ap_frames.specs.Verdicts.{judged, next_redo}
use Rattle.ap_tracked.specs.Tracked.{Tracked}
use Rattle.ap_tracked.specs.Forks.{alone}
use Rattle.ap_instr.specs.Code.{Compiled}
use Rattle.ap_standing.specs.Machine.{Machine, failed}
use Rattle.ap_standing.specs.Holds.{Holds}
use Rattle.ap_tie.specs.Sections.{Row, Section, section, bottom, parcall, nothing, held, rows, machine_in}
use Rattle.ap_tie.specs.Redone.{taken}
use Rattle.ap_tie.specs.Settled.{HasFailed, AreClosed}
use Rattle.ap_tie.specs.Tied.{IsAtAnswer}
use Rattle.ap_tied.specs.Settling.{HasGoals}
use Rattle.ap_tied.specs.SlotCalls.{stood, row_in, held_in, IsGoalAt, answered, gone_on}
use Rattle.ap_tied.specs.Ties.{IsSearched, stack_in}
use Rattle.ap_open.specs.Opened.{Outer, Keeps, spent_in, rest_in}

-- ---- slots of the frame that comes first

-- nothing but that frame is left to do, its round is open, and slot i may begin
abbrev pub MayBegin : ℕ → Section → Type 0
MayBegin i (section m c b bottom) = ⊥
MayBegin i (section m c b (parcall f q rd w qs st)) = HasFailed m.roots [] m × (rd ≡ Closed → ⊥) × (0 < i) × (x : Row) × (row_in i w ≡ Some x) × (is_startable x ≡ true)

-- the goal of slot i, up to names
abbrev pub IsGoalIn : Compiled → ℕ → Section → Tree → ℕ → Type 0
IsGoalIn code i (section m c b bottom) g n = ⊥
IsGoalIn code i (section m c b (parcall f q rd w qs st)) g n = IsGoalAt code f i g n

-- the section whose slot i another section runs
abbrev pub begun_at : ℕ → Section → Outer
begun_at i s = record { section = stood i (Running runs.First) nothing s; place = i; since = 0 }

-- nothing but that frame is left to do, and it is closed; slot i is redone next, and holds a
abbrev pub MayRedo : ℕ → Section → Section → Type 0
MayRedo i a (section m c b bottom) = ⊥
MayRedo i a (section m c b (parcall f q rd w qs st)) = HasFailed m.roots [] m × (rd ≡ Closed) × (next_redo (rows w) ≡ Some i) × (held_in i w ≡ held a)

abbrev pub with_redone : ℕ → Section → Section
with_redone i (section m c b bottom) = section m c b bottom
with_redone i (section m c b (parcall f q rd w qs st)) = section m c b (parcall f (b - c) (Later i) (taken i (b - c) q w) qs st)

-- the section whose slot i runs on in a
abbrev pub redone_at : ℕ → Section → Section → Outer
redone_at i a s = record { section = with_redone i s; place = i; since = spent_in a }

-- ---- where a section comes to rest

-- it stands at an answer, and its frames are closed
pub record IsAnswering (s : Section) : Type 0 where
  pub at : IsAtAnswer (machine_in s)
  pub closed : AreClosed (stack_in s)

-- whether its goal has another one: a frame is left, or a choice point from which a state comes
pub record HasMore (code : Compiled) (s : Section) (more : Bool) : Type 0 where
  pub none : more ≡ false → ((machine_in s).points ≡ []) × (stack_in s ≡ bottom)
  pub some : more ≡ true → (stack_in s ≡ bottom → ⊥) ⊎ ((t : Tracked) (ts : List Tracked) → Holds code (machine_in s) (t ∷ ts) → ts ≡ [] → ⊥)

-- nothing is left to do
pub record IsDone (s : Section) : Type 0 where
  pub now : (machine_in s).now ≡ failed
  pub points : (machine_in s).points ≡ []
  pub stack : stack_in s ≡ bottom

-- another call is due, and none may be made
abbrev pub HasSpentCalls : Compiled → Section → Type 0
HasSpentCalls code (section m c b st) = ((ss : List Tracked) → Holds code m ss → HasGoals ss) × (b ≤ c)

-- the verdict on the frame that comes first says so
abbrev pub HasSpentFrame : Section → Type 0
HasSpentFrame (section m c b bottom) = ⊥
HasSpentFrame (section m c b (parcall f q rd w qs st)) = HasFailed m.roots [] m × (judged q rd (rows w) ≡ verdict.Spent)

-- its budget is spent
abbrev pub IsSpent : Compiled → Section → Type 0
IsSpent code s = HasSpentCalls code s ⊎ HasSpentFrame s

-- ---- calls

pub record CallingLaw : Type 0 where
  -- a fresh section for the goal of a slot that is ready
  pub begins : (code : Compiled) (outer : List Outer) (s : Section) (i : ℕ) (fresh : Machine) → MayBegin i s
      → ((p : Rules) (o : Tracked) → IsSearched code p o → (g : Tree) (n : ℕ) → IsGoalIn code i s g n → Holds code fresh (alone g n ∷ []))
      → Keeps code outer s (outer ++ begun_at i s ∷ []) (section fresh 0 (rest_in s) bottom)
  -- the section of a slot that is redone goes on
  pub redoes : (code : Compiled) (outer : List Outer) (s a : Section) (i : ℕ) → MayRedo i a s → Keeps code outer s (outer ++ redone_at i a s ∷ []) (gone_on (rest_in s) a)
  -- the innermost section ends, and the slot that it ran stands accordingly
  pub answers : (code : Compiled) (outer : List Outer) (a : Outer) (s : Section) (more : Bool) → IsAnswering s → HasMore code s more
      → Keeps code (outer ++ a ∷ []) s outer (stood a.place (answered (spent_in s - a.since) more) (held s) a.section)
  pub fails : (code : Compiled) (outer : List Outer) (a : Outer) (s : Section) → IsDone s
      → Keeps code (outer ++ a ∷ []) s outer (stood a.place (Ended ending.Failed (spent_in s - a.since)) nothing a.section)
  -- it counts with all that was left to the section outside
  pub spends : (code : Compiled) (outer : List Outer) (a : Outer) (s : Section) → IsSpent code s
      → Keeps code (outer ++ a ∷ []) s outer (stood a.place (Ended ending.Spent (rest_in a.section)) nothing a.section)
