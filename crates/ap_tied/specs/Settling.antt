-- What it is in the core that a section's frame is settled, and where a section comes to rest.
use Rattle.std.specs.Prelude.{◌≡◌, ℕ, ◌+◌, ◌-◌, ◌≤◌, true, false, List, [], ◌∷◌, take, Some, None}
use Rattle.std.specs.List.{list_any, list_all}
use Rattle.ap_group.specs.Meets.{MeetAll}
use Rattle.ap_term.specs.Tree.{Tree, Trees}
use Rattle.ap_term.specs.UpToNames.{SameUpToNames}
use Rattle.ap_core.specs.Tasks.{Answer, Task}
use Rattle.ap_core.specs.Conditions.{is_exhausted}
use Rattle.ap_core.specs.Relation.{Rules, answer, has_spent}
use Rattle.ap_frames.specs.declared.frame.Round.{Round}
use Rattle.ap_frames.specs.declared.frame.Round.TheVariants.{Closed}
use Rattle.ap_frames.specs.declared.verdict.Verdict.TheVariants.{Joined, Broken, Spent}
use Rattle.ap_frames.specs.Slots.{has_answer, is_running}
use Rattle.ap_frames.specs.Verdicts.{next_redo, judged}
use Rattle.ap_tracked.specs.Tracked.{Tracked}
use Rattle.ap_instr.specs.Code.{Compiled}
use Rattle.ap_group.specs.Groups.{Forked}
use Rattle.ap_match.specs.Fits.{Fits, Becomes}
use Rattle.ap_standing.specs.Machine.{Point, Machine, returning, failed}
use Rattle.ap_standing.specs.Holds.{Holds}
use Rattle.ap_tie.specs.Sections.{Row, Section, section, Stack, bottom, parcall, Slots, no_slot, slot, nothing, held, machine_in, rows}
use Rattle.ap_tie.specs.Settled.{HasFailed, stays}
use Rattle.ap_tie.specs.Tied.{IsAtAnswer}
use Rattle.ap_tied.specs.Ties.{IsSearched, IsTied, Goes}
use Rattle.ap_tied.specs.Emptied.{emptied_behind}

-- the tuple of the answer that the section's machine stands at, up to names
abbrev pub IsAnswerIn : Section → Trees → Type 0
IsAnswerIn a t = IsAtAnswer (machine_in a) → (code : Compiled) (s : Tracked) (ss : List Tracked) → Holds code (machine_in a) (s ∷ ss) → SameUpToNames t s.tuple

-- the answers of slots, up to names, from the first one on
abbrev pub AreAnswersOf : Slots → List Trees → Type 0
AreAnswersOf no_slot [] = Unit {0}
AreAnswersOf (slot x nothing w) ts = ⊥
AreAnswersOf (slot x (held a) w) (t ∷ ts) = IsAnswerIn a t × AreAnswersOf w ts
AreAnswersOf _ _ = ⊥

-- left of the slot that is redone next each one has an answer
abbrev pub IsRedoable : List Row → Type 0
IsRedoable xs = (i : ℕ) → next_redo xs ≡ Some i → list_all has_answer (take (i - 1) xs) ≡ true

-- The machine has come to the return behind the group. Its cells are those of the fork, with each goal's arguments made an
-- instance of its answer.
pub record HasMet (roots : List ℕ) (f : Forked) (ts : List Trees) (n : Machine) : Type 0 where
  pub now : n.now ≡ returning
  pub returns : n.returns ≡ f.returns
  pub roots_stay : n.roots ≡ roots
  pub points : n.points ≡ []
  pub cells : Becomes f.cells n.cells (MeetAll f.goals ts) (λ k. Unit {0})

pub record SettlingLaw : Type 0 where
  pub joins : (code : Compiled) (m n : Machine) (c b : ℕ) (f : Forked) (q : ℕ) (rd : Round) (w : Slots) (qs : List Point) (st : Stack) (e : ℕ) (ts : List Trees)
      → HasFailed m.roots [] m → judged q rd (rows w) ≡ Joined e → AreAnswersOf w ts → HasMet m.roots f ts n
      → Goes code (section m c b (parcall f q rd w qs st)) (section n (c + e) b (parcall f q Closed w qs st))
  -- such answers can be met
  pub meets : (code : Compiled) (p : Rules) (o : Tracked) (m : Machine) (c b : ℕ) (f : Forked) (q : ℕ) (rd : Round) (w : Slots) (qs : List Point) (st : Stack) (e : ℕ) (ts : List Trees) (t : Task)
      → IsSearched code p o → IsTied code p o (section m c b (parcall f q rd w qs st)) t → HasFailed m.roots [] m → judged q rd (rows w) ≡ Joined e → AreAnswersOf w ts
      → (k : ℕ → Tree) × Fits f.cells k × MeetAll f.goals ts k
  pub breaks : (code : Compiled) (m n : Machine) (c b : ℕ) (f : Forked) (q : ℕ) (rd : Round) (w : Slots) (qs : List Point) (st : Stack) (e : ℕ)
      → HasFailed m.roots [] m → judged q rd (rows w) ≡ Broken e → list_any is_running (rows w) ≡ false → stays rd (rows w) ≡ false → HasFailed m.roots qs n
      → Goes code (section m c b (parcall f q rd w qs st)) (section n (c + e) b st)
  pub closes : (code : Compiled) (m n : Machine) (c b : ℕ) (f : Forked) (q : ℕ) (rd : Round) (w : Slots) (qs : List Point) (st : Stack) (e : ℕ)
      → HasFailed m.roots [] m → judged q rd (rows w) ≡ Broken e → list_any is_running (rows w) ≡ false → stays rd (rows w) ≡ true → IsRedoable (rows w) → HasFailed m.roots [] n
      → Goes code (section m c b (parcall f q rd w qs st)) (section n (c + e) b (parcall f q Closed w qs st))
  -- slots behind the i-th one give their sections away where they have no other answer, which is no event
  pub empties : (code : Compiled) (m : Machine) (c b : ℕ) (f : Forked) (q i : ℕ) (w : Slots) (qs : List Point) (st : Stack)
      → Goes code (section m c b (parcall f q Closed w qs st)) (section m c b (parcall f q Closed (emptied_behind i w) qs st))
  -- a frame that can't be redone gives all its slots away, which is no event
  pub clears : (code : Compiled) (m : Machine) (c b : ℕ) (f : Forked) (q : ℕ) (w : Slots) (qs : List Point) (st : Stack) → next_redo (rows w) ≡ None
      → Goes code (section m c b (parcall f q Closed w qs st)) (section m c b (parcall f q Closed no_slot qs st))
  pub spends : (code : Compiled) (p : Rules) (o : Tracked) (m : Machine) (c b : ℕ) (f : Forked) (q : ℕ) (rd : Round) (w : Slots) (qs : List Point) (st : Stack) (t : Task)
      → IsTied code p o (section m c b (parcall f q rd w qs st)) t → HasFailed m.roots [] m → judged q rd (rows w) ≡ Spent → has_spent p.loud t ≡ true

-- the first state has goals
abbrev pub HasGoals : List Tracked → Type 0
HasGoals [] = ⊥
HasGoals (s ∷ ss) = s.goals ≡ [] → ⊥

-- Where a section comes to rest.
pub record RestingLaw : Type 0 where
  -- another call is due, and none may be made
  pub spent : (code : Compiled) (p : Rules) (o : Tracked) (m : Machine) (c b : ℕ) (st : Stack) (t : Task)
      → IsTied code p o (section m c b st) t → ((ss : List Tracked) → Holds code m ss → HasGoals ss) → b ≤ c → has_spent p.loud t ≡ true
  pub ended : (code : Compiled) (p : Rules) (o : Tracked) (m : Machine) (c b : ℕ) (t : Task)
      → IsTied code p o (section m c b bottom) t → m.now ≡ failed → m.points ≡ [] → is_exhausted t ≡ true
  -- an answer: it is the task's, and what is left stands for what the task has left
  pub answered : (code : Compiled) (p : Rules) (o : Tracked) (m : Machine) (c b : ℕ) (st : Stack) (t : Task)
      → IsSearched code p o → IsTied code p o (section m c b st) t → IsAtAnswer m
      → (y : Answer) × (u : Task) × (answer t ≡ Some (y, u)) × ((z : Trees) → IsAnswerIn (section m c b st) z → SameUpToNames z y.tuple) × IsTied code p o (section (record m { now = failed }) c b st) u
      × (m.points ≡ [] → st ≡ bottom → is_exhausted u ≡ true)
      × ((st ≡ bottom → ⊥) → is_exhausted u ≡ false)
      × (((s : Tracked) (ss : List Tracked) → Holds code m (s ∷ ss) → ss ≡ [] → ⊥) → is_exhausted u ≡ false)
