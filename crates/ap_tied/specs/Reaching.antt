-- What the moves of a section's machine are in the core: turns, a group that is forked, a closed frame that is dropped.
use Rattle.std.specs.Prelude.{◌≡◌, ℕ, ◌+◌, ◌-◌, ◌<◌, ◌≤◌, List, [], ◌∷◌, length, None}
use Rattle.std.specs.List.{AllByRecursion}
use Rattle.ap_term.specs.Goals.{Program}
use Rattle.ap_term.specs.WellFormed.{IsProgram}
use Rattle.ap_core.specs.Tasks.{Task, task, exhausted, alternative, state}
use Rattle.ap_core.specs.Relation.{Rules}
use Rattle.ap_frames.specs.declared.frame.Round.TheVariants.{First, Closed}
use Rattle.ap_frames.specs.Verdicts.{next_redo}
use Rattle.ap_tracked.specs.Tracked.{Tracked, untracked}
use Rattle.ap_tracked.specs.Kept.{Means}
use Rattle.ap_instr.specs.Code.{Compiled}
use Rattle.ap_instr.specs.StandsFor.{StandsFor}
use Rattle.ap_group.specs.Groups.{Forked}
use Rattle.ap_group.specs.Gathers.{IsGroupAt, IsGathered, IsPlainWay, IsCutOff}
use Rattle.ap_steps.specs.Moves.{held}
use Rattle.ap_steps.specs.Standing.{Return}
use Rattle.ap_standing.specs.Machine.{Point, inside, failed, Machine, AreWithin}
use Rattle.ap_standing.specs.Holds.{Holds, Turned}
use Rattle.ap_tie.specs.Sections.{Section, section, Stack, bottom, parcall, Slots, rows}
use Rattle.ap_tie.specs.Settled.{AreClosed, HasFailed}
use Rattle.ap_tied.specs.Ties.{IsPlaced, IsSearched, IsTied, Goes, ready_slots}

-- registers of returns, and the tuple's places, are places of the cells
abbrev pub IsInside : Machine → Type 0
IsInside m = AreWithin (length m.cells) m.returns × AllByRecursion (λ r. r < length m.cells) m.roots

pub record ReachingLaw : Type 0 where
  pub stays : (code : Compiled) (s : Section) → Goes code s s
  pub goes_on : (code : Compiled) (s s' s'' : Section) → Goes code s s' → Goes code s' s'' → Goes code s s''
  -- as many turns of the model as calls were counted
  pub turns : (code : Compiled) (m m' : Machine) (c b n : ℕ) (st : Stack) → n ≤ b - c → AreClosed st → m'.roots ≡ m.roots
      → ((p : Program) → IsProgram p → StandsFor code p → (ss : List Tracked) → Holds code m ss → (ts : List Tracked) × Turned p n ss ts × Holds code m' ts)
      → Goes code (section m c b st) (section m' (c + n) b st)
  -- a group whose checks hold: its frame comes first, in front of the choice points that there were
  pub forks : (code : Compiled) (m n : Machine) (c b : ℕ) (st : Stack) (at to : ℕ) (f : Forked) (x' y' : List ℕ) (w : Return)
      → AreClosed st → m.now ≡ inside at → IsGroupAt code at → IsInside m → IsGathered code at m.cells m.x m.y to f.cells x' y' f.goals
      → f.returns ≡ w ∷ m.returns → w.place ≡ to + 1 → ((k : ℕ) → held w.y k ≡ held y' k) → IsPlaced code m.roots f → HasFailed m.roots [] n
      → Goes code (section m c b st) (section n c b (parcall f (b - c) First (ready_slots (length f.goals)) m.points st))
  -- a check leads to the group's goals one after another, also where it would hold
  pub goes_plain : (code : Compiled) (m : Machine) (c b : ℕ) (st : Stack) (at to : ℕ) → AreClosed st → m.now ≡ inside at → IsGroupAt code at → IsPlainWay code at m.cells m.x m.y to
      → Goes code (section m c b st) (section (record m { now = inside to }) c b st)
  -- an instruction on the way through the group can't be taken
  pub is_cut : (code : Compiled) (m : Machine) (c b : ℕ) (st : Stack) (at : ℕ) (x y : List ℕ) → AreClosed st → m.now ≡ inside at → IsGroupAt code at → IsCutOff code at m.cells m.x m.y
      → Goes code (section m c b st) (section (record m { x = x; y = y; now = failed }) c b st)
  -- a machine without choice points that has failed has nothing left to do
  pub comes : (code : Compiled) (m n : Machine) (c b : ℕ) (st : Stack) → m.now ≡ failed → m.points ≡ [] → HasFailed m.roots [] n
      → Goes code (section m c b st) (section n c b st)
  -- a closed frame without a slot to redo
  pub drops : (code : Compiled) (m n : Machine) (c b : ℕ) (f : Forked) (q : ℕ) (w : Slots) (qs : List Point) (st : Stack)
      → HasFailed m.roots [] m → next_redo (rows w) ≡ None → HasFailed m.roots qs n
      → Goes code (section m c b (parcall f q Closed w qs st)) (section n c b st)

-- The task of a goal alone, and that of a query.
abbrev pub whole : ℕ → Tracked → Task
whole rest o = task rest 0 (alternative (state (untracked o)) exhausted)

-- Where sections begin.
pub record BeginningLaw : Type 0 where
  pub tied : (code : Compiled) (p : Rules) (o : Tracked) (m : Machine) (rest : ℕ) → IsSearched code p o → AllByRecursion Means o.goals → Holds code m (o ∷ []) → IsTied code p o (section m 0 rest bottom) (whole rest o)
