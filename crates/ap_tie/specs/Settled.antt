-- What a section is when the frame that comes first was joined, or has failed.
use Rattle.std.specs.Prelude.{◌≡◌, ℕ, ◌-◌, Bool, true, false, is_some, List, [], ◌∷◌, Some}
use Rattle.ap_term.specs.Substitution.{instance_all}
use Rattle.ap_term.specs.WellFormed.{IsProgram}
use Rattle.ap_term.specs.Goals.{Program}
use Rattle.ap_core.specs.declared.events.Kind.TheVariants.{Join, Break}
use Rattle.ap_core.specs.Tasks.{Task, task, exhausted, alternative, state, frame}
use Rattle.ap_core.specs.Conditions.{spent_by}
use Rattle.ap_core.specs.Relation.{Rules, own}
use Rattle.ap_frames.specs.declared.frame.Round.{Round}
use Rattle.ap_frames.specs.declared.frame.Round.TheVariants.{Later, Closed}
use Rattle.ap_frames.specs.Verdicts.{next_redo}
use Rattle.ap_parcall_laws.specs.Alike.{AreStoredBehind}
use Rattle.ap_tracked.specs.Tracked.{Tracked}
use Rattle.ap_tracked.specs.Kept.{IsKept}
use Rattle.ap_graft.specs.Variables.{IsTrackedBelow}
use Rattle.ap_graft.specs.Grafts.{tracked_grafts}
use Rattle.ap_graft.specs.Joins.{AreAnswers}
use Rattle.ap_instr.specs.Code.{Compiled}
use Rattle.ap_standing.specs.Machine.{Point, failed, Machine}
use Rattle.ap_standing.specs.Holds.{Holds}
use Rattle.ap_group.specs.Groups.{Forked}
use Rattle.ap_tie.specs.Sections.{Row, section, Stack, bottom, parcall, Slots, no_slot, slot, nothing, held, machine_in, rows}
use Rattle.ap_tie.specs.Forked.{IsForked}
use Rattle.ap_tie.specs.Slots.{rest_of}
use Rattle.ap_tie.specs.Tied.{IsShutIn, HoldsTask}

-- each slot holds the section of its answer
abbrev pub AllHeld : Slots → Type 0
AllHeld no_slot = Unit {0}
AllHeld (slot x nothing w) = ⊥
AllHeld (slot x (held a) w) = AllHeld w

-- the answers at which the sections stand
abbrev pub AreHeld : Compiled → Slots → List Tracked → Type 0
AreHeld code no_slot [] = Unit {0}
AreHeld code (slot x (held a) w) (u ∷ us) = ((ss : List Tracked) × Holds code (machine_in a) (u ∷ ss)) × AreHeld code w us
AreHeld code _ _ = ⊥

-- frames whose round is closed, which don't look at what is left
abbrev pub AreClosed : Stack → Type 0
AreClosed bottom = Unit {0}
AreClosed (parcall f q Closed w qs st) = AreClosed st
AreClosed (parcall f q _ w qs st) = ⊥

-- of the frame that comes first: where a slot is redone those right of it have stored their answers
abbrev pub StoresBehind : List Row → Task → Type 0
StoresBehind xs (task r c exhausted) = Unit {0}
StoresBehind xs (task r c (alternative (state s) l)) = Unit {0}
StoresBehind xs (task r c (alternative (frame s rd v) l)) = (i : ℕ) → next_redo xs ≡ Some i → AreStoredBehind i xs v

-- of the same frame: it can be closed
abbrev pub MayShut : List Row → Task → Type 0
MayShut xs (task r c exhausted) = Unit {0}
MayShut xs (task r c (alternative (state s) l)) = Unit {0}
MayShut xs (task r c (alternative (frame s rd v) l)) = IsShutIn Closed xs v

-- the state of a frame with the answers of its slots in the places of its goals
pub record IsJoined (code : Compiled) (p : Program) (o : Tracked) (roots : List ℕ) (f : Forked) (w : Slots) (j : Tracked) : Type 0 where
  pub forked : Tracked
  pub is_forked : IsForked code roots f forked
  pub kept : IsKept p o forked
  pub answers : List Tracked
  pub held : AreHeld code w answers
  pub each : AreAnswers p forked.next (instance_all is_forked.own is_forked.goals) answers
  pub same : j ≡ tracked_grafts forked.next forked answers

-- the section with those counts has spent what the task has
pub record HasCounts (d b : ℕ) (u : Task) : Type 0 where
  pub spent : spent_by u ≡ d
  pub rest : rest_of u ≡ b - d

-- A machine that stands for the joined state alone, in front of the frame, whose round is closed, stands for what a join of
-- the core leaves.
abbrev pub JoinLaw : Type 0
JoinLaw =
    (code : Compiled) (p : Rules) (o : Tracked) (m : Machine) (c b : ℕ) (f : Forked) (q : ℕ) (rd : Round) (w : Slots) (qs : List Point) (st : Stack) (t u : Task)
    → IsProgram p.program → IsTrackedBelow o → AllHeld w → AreClosed st → StoresBehind (rows w) t → HoldsTask code p o (section m c b (parcall f q rd w qs st)) t → own p Join t ≡ Some u
    → (j : Tracked) × IsJoined code p.program o m.roots f w j
    × ((n : Machine) (d : ℕ) → n.roots ≡ m.roots → Holds code n (j ∷ []) → HasCounts d b u → HoldsTask code p o (section n d b (parcall f q Closed w qs st)) u)

-- whether a frame stays when its round fails: a slot is redone again
abbrev pub stays : Round → List Row → Bool
stays (Later i) xs = is_some (next_redo xs)
stays _ xs = false

-- a machine that has nothing to do but these choice points
pub record HasFailed (roots : List ℕ) (qs : List Point) (n : Machine) : Type 0 where
  pub now : n.now ≡ failed
  pub returns : n.returns ≡ []
  pub roots_stay : n.roots ≡ roots
  pub points : n.points ≡ qs

-- Where a round has failed, or a closed frame has no slot to redo, the frame goes, or its round is closed; and a machine
-- that has failed stands for what a break of the core leaves.
pub record BreakLaw : Type 0 where
  pub goes : (code : Compiled) (p : Rules) (o : Tracked) (m n : Machine) (c b d : ℕ) (f : Forked) (q : ℕ) (rd : Round) (w : Slots) (qs : List Point) (st : Stack) (t u : Task)
      → AreClosed st → HoldsTask code p o (section m c b (parcall f q rd w qs st)) t → own p Break t ≡ Some u → stays rd (rows w) ≡ false
      → HasFailed m.roots qs n → HasCounts d b u → HoldsTask code p o (section n d b st) u
  pub closes : (code : Compiled) (p : Rules) (o : Tracked) (m n : Machine) (c b d : ℕ) (f : Forked) (q : ℕ) (rd : Round) (w : Slots) (qs : List Point) (st : Stack) (t u : Task)
      → AreClosed st → MayShut (rows w) t → HoldsTask code p o (section m c b (parcall f q rd w qs st)) t → own p Break t ≡ Some u → stays rd (rows w) ≡ true
      → HasFailed m.roots [] n → HasCounts d b u → HoldsTask code p o (section n d b (parcall f q Closed w qs st)) u
