-- What it is in the core that a slot of the frame that comes first begins, answers, ends, and is redone.
use Rattle.std.specs.Prelude.{◌≡◌, ℕ, zero, suc, ◌+◌, ◌-◌, ◌<◌, Bool, true, false, not, List, [], ◌∷◌, slice_get, Option, Some, None}
use Rattle.ap_term.specs.Tuples.{tuple_under, arguments}
use Rattle.ap_term.specs.Tree.{Tree}
use Rattle.ap_term.specs.UpToNames.{SameUpToNames}
use Rattle.ap_term.specs.Vars.{Local}
use Rattle.ap_cells.specs.Trees.{tree_at, trees}
use Rattle.ap_core.specs.declared.events.Kind.TheVariants as kinds
use Rattle.ap_core.specs.Tasks as core
use Rattle.ap_core.specs.Tasks.{Answer, Task, task, exhausted, alternative, state, frame, Progress, idle, stored, busy, again, redone, drained}
use Rattle.ap_core.specs.Conditions.{is_exhausted, spent_by}
use Rattle.ap_core.specs.Lifting.{running_task, at_end}
use Rattle.ap_core.specs.Relation.{Rules, answer, has_spent}
use Rattle.ap_frames.specs.declared.frame.Round.{Round}
use Rattle.ap_frames.specs.declared.frame.Round.TheVariants.{Later, Closed}
use Rattle.ap_frames.specs.declared.slots.Stand.{Stand}
use Rattle.ap_frames.specs.declared.slots.Stand.TheVariants.{Running, Answered, Ended}
use Rattle.ap_frames.specs.declared.slots.Run.TheVariants as runs
use Rattle.ap_frames.specs.declared.slots.Ending.TheVariants as ending
use Rattle.ap_frames.specs.Rows.{standing, stopped}
use Rattle.ap_frames.specs.Slots.{is_startable, has_answer, may_be_given_back}
use Rattle.ap_frames.specs.Rounds.{readied}
use Rattle.ap_frames.specs.Verdicts.{next_redo}
use Rattle.ap_tracked.specs.Tracked.{Tracked}
use Rattle.ap_tracked.specs.Forks.{alone}
use Rattle.ap_instr.specs.declared.compiled.Predicate.{Predicate}
use Rattle.ap_instr.specs.Code.{Compiled}
use Rattle.ap_instr.specs.Runs.{applied}
use Rattle.ap_group.specs.Groups.{Pushed, Forked}
use Rattle.ap_standing.specs.Machine.{Point, Machine, failed}
use Rattle.ap_tie.specs.Sections.{Row, Section, section, Stack, bottom, parcall, Slots, no_slot, slot, Held, nothing, held, rows, machine_in}
use Rattle.ap_tie.specs.Open.{origin_of}
use Rattle.ap_tie.specs.Redone.{taken}
use Rattle.ap_tie.specs.Settled.{HasFailed, AreClosed}
use Rattle.ap_tie.specs.Tied.{IsAtAnswer}
use Rattle.ap_tied.specs.Happened.{happened}
use Rattle.ap_tied.specs.Reaching.{whole}
use Rattle.ap_tied.specs.Ties.{IsSearched, IsTied, stack_in}

-- ---- slots by their places, from 1

-- slot i stands so, and holds that
abbrev pub stood_in : ℕ → Stand (Unit {0}) → Held → Slots → Slots
stood_in i e h no_slot = no_slot
stood_in zero e h (slot x a w) = slot x a w
stood_in (suc zero) e h (slot x a w) = slot (standing e x) h w
stood_in (suc (suc i)) e h (slot x a w) = slot x a (stood_in (suc i) e h w)

-- of the frame that comes first
abbrev pub stood_stack : ℕ → Stand (Unit {0}) → Held → Stack → Stack
stood_stack i e h bottom = bottom
stood_stack i e h (parcall f q rd w qs st) = parcall f q rd (stood_in i e h w) qs st

abbrev pub stood : ℕ → Stand (Unit {0}) → Held → Section → Section
stood i e h (section m c b st) = section m c b (stood_stack i e h st)

abbrev pub row_in : ℕ → Slots → Option Row
row_in i w = slice_get (rows w) (i - 1)

-- what slot i holds
abbrev pub held_in : ℕ → Slots → Held
held_in i no_slot = nothing
held_in zero (slot x a w) = nothing
held_in (suc zero) (slot x a w) = a
held_in (suc (suc i)) (slot x a w) = held_in (suc i) w

-- slots behind slot i that wait are ready
abbrev pub readied_behind : ℕ → Slots → Slots
readied_behind i no_slot = no_slot
readied_behind zero (slot x h w) = slot (readied x) h (readied_behind zero w)
readied_behind (suc i) (slot x h w) = slot x h (readied_behind i w)

-- ---- what a slot that runs had spent before this round

abbrev pub since_of : Progress → Option ℕ
since_of (busy b t) = Some 0
since_of (redone m b t i) = Some i
since_of _ = None

abbrev pub since_in : ℕ → core.Slots → Option ℕ
since_in i core.no_slot = None
since_in zero (core.slot g k x w) = None
since_in (suc zero) (core.slot g k x w) = since_of x
since_in (suc (suc i)) (core.slot g k x w) = since_in (suc i) w

abbrev pub since : ℕ → Task → Option ℕ
since i (task r c exhausted) = None
since i (task r c (alternative (state s) l)) = None
since i (task r c (alternative (frame s rd w) l)) = since_in i w

-- Slot i of the task's first frame runs the search of n, with the task z, and had spent d before this round.
pub record RunsSlot (i : ℕ) (t : Task) (n : Tracked) (d : ℕ) (z : Task) : Type 0 where
  pub runs : running_task i t ≡ Some z
  pub origin : origin_of i t ≡ Some n
  pub before : since i t ≡ Some d

-- the goal that was pushed is that one, up to names
pub record IsGoalAt (code : Compiled) (f : Forked) (i : ℕ) (g : Tree) (b : ℕ) : Type 0 where
  pub goal : Pushed
  pub predicate : Predicate
  pub place : slice_get f.goals (i - 1) ≡ Some goal
  pub known : slice_get code.predicates goal.predicate ≡ Some predicate
  pub named : g ≡ applied predicate.name (arguments g)
  pub same : SameUpToNames (tuple_under (tree_at (trees f.cells)) goal.arguments) (arguments g)
  pub below : Local (λ x. x < b) g

-- an answer with that cost, and whether the goal has another one
abbrev pub answered : ℕ → Bool → Stand (Unit {0})
answered cost more = Answered (record { section = Some tt; cost = cost; has_more = more })

-- A section at its answer, when it goes on with the rest r.
abbrev pub gone_on : ℕ → Section → Section
gone_on r (section m c b st) = section (record m { now = failed }) c (c + r) st

pub record SlotCallsLaw : Type 0 where
  -- a slot that is ready begins: a section for its goal alone is to be started, with all that is left
  pub starts : (code : Compiled) (p : Rules) (o : Tracked) (m : Machine) (c b : ℕ) (f : Forked) (q : ℕ) (rd : Round) (w : Slots) (qs : List Point) (st : Stack) (t : Task) (i : ℕ) (x : Row)
      → IsSearched code p o → IsTied code p o (section m c b (parcall f q rd w qs st)) t → HasFailed m.roots [] m → (rd ≡ Closed → ⊥) → 0 < i → row_in i w ≡ Some x → is_startable x ≡ true
      → (u : Task) × (at_end p kinds.Start (i ∷ []) t ≡ Some u) × IsTied code p o (stood i (Running runs.First) nothing (section m c b (parcall f q rd w qs st))) u
      × ((g : Tree) × (n : ℕ) × IsGoalAt code f i g n × IsSearched code p (alone g n) × RunsSlot i u (alone g n) 0 (whole (b - c) (alone g n)))
  -- the section that ran it stands at an answer
  pub answers : (code : Compiled) (p : Rules) (o n : Tracked) (s a : Section) (t z v : Task) (i d : ℕ) (y : Answer)
      → IsSearched code p o → IsTied code p o s t → HasFailed (machine_in s).roots [] (machine_in s) → RunsSlot i t n d z → IsTied code p n a z → IsAtAnswer (machine_in a) → AreClosed (stack_in a) → answer z ≡ Some (y, v)
      → (u : Task) × (at_end p kinds.Answer (i ∷ []) t ≡ Some u) × IsTied code p o (stood i (answered (spent_by z - d) (not (is_exhausted v))) (held a) s) u
  pub fails : (code : Compiled) (p : Rules) (o n : Tracked) (s : Section) (t z : Task) (i d : ℕ)
      → IsTied code p o s t → RunsSlot i t n d z → is_exhausted z ≡ true
      → (u : Task) × (at_end p kinds.Fail (i ∷ []) t ≡ Some u) × IsTied code p o (stood i (Ended ending.Failed (spent_by z - d)) nothing s) u
  -- it counts with all that is left
  pub spends : (code : Compiled) (p : Rules) (o n : Tracked) (m : Machine) (c b : ℕ) (st : Stack) (t z : Task) (i d : ℕ)
      → IsTied code p o (section m c b st) t → RunsSlot i t n d z → has_spent p.loud z ≡ true
      → (u : Task) × (at_end p kinds.Spend (i ∷ []) t ≡ Some u) × IsTied code p o (stood i (Ended ending.Spent (b - c)) nothing (section m c b st)) u
  -- behind a redone slot that has answered the others begin anew
  pub restarts : (code : Compiled) (p : Rules) (o : Tracked) (m : Machine) (c b : ℕ) (f : Forked) (q i : ℕ) (w : Slots) (qs : List Point) (st : Stack) (t : Task) (x : Row)
      → IsTied code p o (section m c b (parcall f q (Later i) w qs st)) t → 0 < i → row_in i w ≡ Some x → has_answer x ≡ true
      → (u : Task) × (at_end p kinds.Restart [] t ≡ Some u) × IsTied code p o (section m c b (parcall f q (Later i) (readied_behind i w) qs st)) u
  -- the slot that is redone goes on in its section
  pub redoes : (code : Compiled) (p : Rules) (o : Tracked) (m : Machine) (c b : ℕ) (f : Forked) (q : ℕ) (w : Slots) (qs : List Point) (st : Stack) (t : Task) (i : ℕ)
      → IsSearched code p o → IsTied code p o (section m c b (parcall f q Closed w qs st)) t → HasFailed m.roots [] m → next_redo (rows w) ≡ Some i
      → (u : Task) × (at_end p kinds.Redo [] t ≡ Some u) × IsTied code p o (section m c b (parcall f (b - c) (Later i) (taken i (b - c) q w) qs st)) u
      × ((a : Section) × (held_in i w ≡ held a) × (n : Tracked) × (d : ℕ) × (z : Task) × IsSearched code p n × RunsSlot i u n d z × (spent_by z ≡ d) × IsTied code p n (gone_on (b - c) a) z)

-- Slots that run and are stopped. What had been found is lost.
pub record StopCallsLaw : Type 0 where
  -- it was asked to, and doesn't run again in this round
  pub stops : (code : Compiled) (p : Rules) (o n : Tracked) (s : Section) (t z : Task) (i d : ℕ)
      → IsTied code p o s t → RunsSlot i t n d z
      → (u : Task) × (happened p ((kinds.Stop, i ∷ []) ∷ (kinds.Stopped, i ∷ []) ∷ []) t ≡ Some u) × IsTied code p o (stood i (stopped (Unit {0}) true (spent_by z - d)) nothing s) u
  -- nobody asked it to, so it can begin anew
  pub gives_back : (code : Compiled) (p : Rules) (o n : Tracked) (m : Machine) (c b : ℕ) (f : Forked) (q : ℕ) (rd : Round) (w : Slots) (qs : List Point) (st : Stack) (t z : Task) (i d : ℕ) (x : Row)
      → IsTied code p o (section m c b (parcall f q rd w qs st)) t → RunsSlot i t n d z → row_in i w ≡ Some x → may_be_given_back x ≡ true
      → (u : Task) × (at_end p kinds.Stopped (i ∷ []) t ≡ Some u) × IsTied code p o (stood i (stopped (Unit {0}) false (spent_by z - d)) nothing (section m c b (parcall f q rd w qs st))) u
