-- A section beside a task of the core: what it stands for, and what all its calls keep.
use Rattle.std.specs.Prelude.{◌≡◌, ℕ, zero, suc, ◌<◌, ◌⊎◌, true, false, List, [], length, slice_get, Some, None}
use Rattle.std.specs.List.{AllByRecursion}
use Rattle.ap_term.specs.Tree.{Tree, Trees}
use Rattle.ap_term.specs.WellFormed.{IsProgram}
use Rattle.ap_core.specs.declared.tasks.Busy.{Busy}
use Rattle.ap_core.specs.declared.tasks.Busy.TheVariants.{Stopping}
use Rattle.ap_core.specs.Tasks as core
use Rattle.ap_core.specs.Tasks.{Task, task, Alternatives, exhausted, alternative, Alternative, state, frame, Progress, idle, stored, busy, again, redone, drained}
use Rattle.ap_core.specs.Conditions.{has_answer}
use Rattle.ap_core.specs.Relation.{Rules}
use Rattle.ap_core.specs.Reached.{Happening}
use Rattle.ap_frames.specs.declared.frame.Round.{Round}
use Rattle.ap_frames.specs.declared.frame.Round.TheVariants.{Draining, Later, Closed}
use Rattle.ap_frames.specs.declared.slots.Stand.{Stand}
use Rattle.ap_frames.specs.declared.slots.Stand.TheVariants.{Answered, Replayed}
use Rattle.ap_frames.specs.Rows.{fresh}
use Rattle.ap_tracked.specs.Tracked.{Tracked}
use Rattle.ap_tracked.specs.Safe.{IsSafe}
use Rattle.ap_graft.specs.Variables.{IsTrackedBelow}
use Rattle.ap_instr.specs.declared.compiled.Predicate.{Predicate}
use Rattle.ap_instr.specs.Code.{Compiled}
use Rattle.ap_instr.specs.StandsFor.{StandsFor}
use Rattle.ap_group.specs.Groups.{Pushed, Forked}
use Rattle.ap_standing.specs.Machine.{AreWithin}
use Rattle.ap_tie.specs.Sections.{Section, section, Stack, bottom, parcall, Slots, no_slot, slot, Held, nothing, held, rows}
use Rattle.ap_tie.specs.Settled.{AreClosed, HasFailed}
use Rattle.ap_tie.specs.Tied.{HoldsTask}
use Rattle.ap_tied.specs.Happened.{happened}

-- ---- tasks

-- nobody asked it to stop
abbrev pub IsUnasked : Busy → Type 0
IsUnasked Stopping = ⊥
IsUnasked _ = Unit {0}

-- No frame keeps its slots' answers, none drains a slot, and none waits for a slot to stop; the same of what slots with an
-- answer have left.
abbrev mutual
  pub IsSimple : Task → Type 0
  IsSimple (task r c l) = AreSimple l

  pub AreSimple : Alternatives → Type 0
  AreSimple exhausted = Unit {0}
  AreSimple (alternative a l) = IsSimpleAlternative a × AreSimple l

  pub IsSimpleAlternative : Alternative → Type 0
  IsSimpleAlternative (state s) = Unit {0}
  IsSimpleAlternative (frame s rd w) = SlotsAreSimple w

  pub SlotsAreSimple : core.Slots → Type 0
  SlotsAreSimple core.no_slot = Unit {0}
  SlotsAreSimple (core.slot g k x w) = (k ≡ false) × IsSimpleProgress x × SlotsAreSimple w

  pub IsSimpleProgress : Progress → Type 0
  IsSimpleProgress (idle i) = Unit {0}
  IsSimpleProgress (stored m) = ⊥
  IsSimpleProgress (busy b t) = IsUnasked b
  IsSimpleProgress (core.held m a t c) = IsSimple t
  IsSimpleProgress (redone m b t i) = IsUnasked b
  IsSimpleProgress (again m a t c) = IsSimple t
  IsSimpleProgress (drained m b t i e) = ⊥

-- ---- sections

-- the goal is of a predicate of the table, with as many arguments as that has
abbrev pub IsKnownGoal : Compiled → Pushed → Type 0
IsKnownGoal code p = (q : Predicate) × (slice_get code.predicates p.predicate ≡ Some q) × (length p.arguments ≡ q.arity)

-- where a group's goals were pushed all places are those of its cells
pub record IsPlaced (code : Compiled) (roots : List ℕ) (f : Forked) : Type 0 where
  pub known : AllByRecursion (IsKnownGoal code) f.goals
  pub arguments : AllByRecursion (λ p. AllByRecursion (λ r. r < length f.cells) p.arguments) f.goals
  pub returns : AreWithin (length f.cells) f.returns
  pub roots_inside : AllByRecursion (λ r. r < length f.cells) roots

abbrev pub IsQuietRound : Round → Type 0
IsQuietRound (Draining n) = ⊥
IsQuietRound _ = Unit {0}

-- a slot for each of n goals, or none where the frame is cleared
abbrev pub IsCount : Round → ℕ → ℕ → Type 0
IsCount rd k n = (k ≡ n) ⊎ ((rd ≡ Closed) × (k ≡ 0))

-- the stack of a section
abbrev pub stack_in : Section → Stack
stack_in (section m c b st) = st

-- No slot is loud or has stored answers, one that has an answer holds the section that found it, whose frames are closed, or nothing
-- where there is no other answer, and no frame drains a slot; the same of the sections that slots hold.
abbrev mutual
  pub IsQuiet : Compiled → Section → Type 0
  IsQuiet code (section m c b st) = IsQuietStack code m.roots st

  pub IsQuietStack : Compiled → List ℕ → Stack → Type 0
  IsQuietStack code roots bottom = Unit {0}
  IsQuietStack code roots (parcall f q rd w qs st) =
      IsPlaced code roots f × IsCount rd (length (rows w)) (length f.goals) × IsQuietRound rd × AreQuietSlots code w × IsQuietStack code roots st

  pub AreQuietSlots : Compiled → Slots → Type 0
  AreQuietSlots code no_slot = Unit {0}
  AreQuietSlots code (slot x h w) = (x.is_loud ≡ false) × (x.tuples ≡ None) × HoldsAnswer code x.stand h × AreQuietSlots code w

  pub HoldsAnswer : Compiled → Stand (Unit {0}) → Held → Type 0
  HoldsAnswer code (Answered a) nothing = (a.section ≡ None) × (a.has_more ≡ false)
  HoldsAnswer code (Answered a) (held s) = (a.section ≡ Some tt) × IsQuiet code s × AreClosed (stack_in s)
  HoldsAnswer code (Replayed k) h = ⊥
  HoldsAnswer code _ h = h ≡ nothing

-- all frames are closed but the first one, which may be open where nothing but it is left to do
abbrev pub IsInOrder : Section → Type 0
IsInOrder (section m c b bottom) = Unit {0}
IsInOrder (section m c b (parcall f q rd w qs st)) = ((rd ≡ Closed) ⊎ HasFailed m.roots [] m) × AreClosed st

-- ---- both

-- it runs on from an answer, or has another one
abbrev pub WasRedone : Progress → Type 0
WasRedone (redone m b t i) = Unit {0}
WasRedone (again m a t c) = Unit {0}
WasRedone _ = ⊥

-- slot i was redone, and those left of it have answers
abbrev pub IsRedoneAt : ℕ → core.Slots → Type 0
IsRedoneAt i core.no_slot = ⊥
IsRedoneAt zero (core.slot g k x w) = ⊥
IsRedoneAt (suc zero) (core.slot g k x w) = WasRedone x
IsRedoneAt (suc (suc i)) (core.slot g k x w) = (has_answer x ≡ true) × IsRedoneAt (suc i) w

-- in the task's first frame
abbrev pub IsRedoneIn : ℕ → Task → Type 0
IsRedoneIn i (task r c exhausted) = Unit {0}
IsRedoneIn i (task r c (alternative (state s) l)) = Unit {0}
IsRedoneIn i (task r c (alternative (frame s rd w) l)) = IsRedoneAt i w

-- where the frame that comes first is in a later round, that is of the slot that was redone
abbrev pub IsInRound : Section → Task → Type 0
IsInRound (section m c b (parcall f q (Later i) w qs st)) t = IsRedoneIn i t
IsInRound _ t = Unit {0}

-- The code is for the program, o is a safe beginning of a search, and no goal is loud.
pub record IsSearched (code : Compiled) (p : Rules) (o : Tracked) : Type 0 where
  pub program : IsProgram p.program
  pub code_stands : StandsFor code p.program
  pub safe : IsSafe p.program o
  pub below : IsTrackedBelow o
  pub quiet : (g : Tree) → p.loud g ≡ false

-- The section stands for the task, one of the search of o; no answers are stored, and no slot is drained.
pub record IsTied (code : Compiled) (p : Rules) (o : Tracked) (s : Section) (t : Task) : Type 0 where
  pub holds : HoldsTask code p o s t
  pub simple : IsSimple t
  pub quiet : IsQuiet code s
  pub in_order : IsInOrder s
  pub in_round : IsInRound s t

-- whatever task the one section is tied to, events lead it to one that the other section is tied to
abbrev pub Goes : Compiled → Section → Section → Type 0
Goes code s s' =
    (p : Rules) (o : Tracked) (t : Task) → IsSearched code p o → IsTied code p o s t
    → (es : List Happening) × (u : Task) × (happened p es t ≡ Some u) × IsTied code p o s' u

-- so many slots that are ready and hold nothing
abbrev pub ready_slots : ℕ → Slots
ready_slots zero = no_slot
ready_slots (suc n) = slot (fresh (Unit {0}) Trees false) nothing (ready_slots n)
