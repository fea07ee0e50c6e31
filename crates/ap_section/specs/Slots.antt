-- What is read of the frame that comes first, and what becomes of it.
use Rattle.std.specs.Prelude.{◌≡◌, ℕ, ◌-◌, ◌<◌, ◌≤◌, ◌⊎◌, Bool, true, false, List, [], length, slice_get, take, Option, Some, None, is_some}
use Rattle.std.specs.List.{list_any}
use Rattle.ap_term.specs.Tuples.{tuple_under}
use Rattle.ap_term.specs.Tree.{Trees, count_trees}
use Rattle.ap_term.specs.UpToNames.{SameUpToNames}
use Rattle.ap_cells.specs.declared.cells.Raw.{Raw}
use Rattle.ap_cells.specs.Trees.{tree_at, trees}
use Rattle.ap_frames.specs.declared.frame.Round.{Round}
use Rattle.ap_frames.specs.declared.frame.Round.TheVariants.{Later, Closed}
use Rattle.ap_frames.specs.declared.slots.Slot.{Slot}
use Rattle.ap_frames.specs.declared.slots.Stand.{Stand}
use Rattle.ap_frames.specs.declared.slots.Stand.TheVariants.{Ready}
use Rattle.ap_frames.specs.declared.verdict.Verdict.{Verdict}
use Rattle.ap_frames.specs.declared.verdict.Verdict.TheVariants.{Wait}
use Rattle.ap_frames.specs.Slots.{is_startable}
use Rattle.ap_frames.specs.Rows.{of_slot}
use Rattle.ap_frames.specs.Verdicts.{judged, rightmost, next_redo}
use Rattle.ap_instr.specs.declared.compiled.Predicate.{Predicate}
use Rattle.ap_instr.specs.Code.{Compiled}
use Rattle.ap_group.specs.Groups.{Pushed}
use Rattle.ap_tie.specs.Sections.{Row, Section, section, Stack, bottom, parcall, Slots, no_slot, Held, nothing, held, rows}
use Rattle.ap_tie.specs.Redone.{taken}
use Rattle.ap_tie.specs.Settled.{HasFailed}
use Rattle.ap_tie.specs.Tied.{IsRest}
use Rattle.ap_tied.specs.SlotCalls.{row_in, readied_behind, gone_on}
use Rattle.ap_tied.specs.Ties.{stack_in}

-- ---- at a frame

-- the slot that is redone is one of so many
abbrev pub IsSlotOf : ℕ → Round → Type 0
IsSlotOf n (Later i) = (0 < i) × (i ≤ n)
IsSlotOf n _ = Unit {0}

-- Nothing is left to do but the frame that comes first, which has a slot for each goal: the machine is at its fork.
abbrev pub IsAtFrame : Section → Type 0
IsAtFrame (section m c b bottom) = ⊥
IsAtFrame (section m c b (parcall f q rd w qs st)) =
    HasFailed m.roots [] m × (m.cells ≡ f.cells) × (length (rows w) ≡ length f.goals) × IsRest rd q (b - c) × IsSlotOf (length (rows w)) rd

-- ---- what is read of it

abbrev pub slots_at : Stack → Slots
slots_at bottom = no_slot
slots_at (parcall f q rd w qs st) = w

abbrev pub goals_at : Stack → List Pushed
goals_at bottom = []
goals_at (parcall f q rd w qs st) = f.goals

abbrev pub cells_at : Stack → List Raw
cells_at bottom = []
cells_at (parcall f q rd w qs st) = f.cells

abbrev pub round_at : Stack → Round
round_at bottom = Closed
round_at (parcall f q rd w qs st) = rd

abbrev pub judged_at : Stack → Verdict
judged_at bottom = Wait
judged_at (parcall f q rd w qs st) = judged q rd (rows w)

abbrev pub slots_in : Section → Slots
slots_in s = slots_at (stack_in s)

abbrev pub goals_in : Section → List Pushed
goals_in s = goals_at (stack_in s)

abbrev pub round_in : Section → Round
round_in s = round_at (stack_in s)

abbrev pub verdict_in : Section → Verdict
verdict_in s = judged_at (stack_in s)

-- at a frame with which something is left to do: its round is open, or a slot of it can be redone
abbrev pub IsAtDueFrame : Section → Type 0
IsAtDueFrame s = IsAtFrame s × (round_in s ≡ Closed → is_some (next_redo (rows (slots_in s))) ≡ true)

-- what is told of slot i
abbrev pub told_of : (Row → Bool) → ℕ → Section → Bool
told_of f i s = of_slot f false (row_in i (slots_in s))

abbrev pub IsPlaceIn : ℕ → Section → Type 0
IsPlaceIn i s = (0 < i) × (i ≤ length (rows (slots_in s)))

-- slot i can be started, and none left of it can
abbrev pub IsFirstReady : ℕ → Section → Type 0
IsFirstReady i s = IsPlaceIn i s × (told_of is_startable i s ≡ true) × (list_any is_startable (take (i - 1) (rows (slots_in s))) ≡ false) × (round_in s ≡ Closed → ⊥)

-- slot i can be started
abbrev pub IsReadyAt : ℕ → Section → Type 0
IsReadyAt i s = IsPlaceIn i s × (told_of is_startable i s ≡ true) × (round_in s ≡ Closed → ⊥)

abbrev pub stands_ready : {S : Type 0} → Stand S → Bool
stands_ready Ready = true
stands_ready _ = false

-- it is ready, and wasn't given back
abbrev pub is_ready : {S T : Type 0} → Slot S T → Bool
is_ready x = stands_ready x.stand

abbrev pub last_ready_of : Round → List Row → Option ℕ
last_ready_of Closed xs = None
last_ready_of _ xs = rightmost is_ready xs

-- the rightmost slot that is ready, where the round isn't over
abbrev pub last_ready_in : Section → Option ℕ
last_ready_in s = last_ready_of (round_in s) (rows (slots_in s))

-- no slot can
abbrev pub HasNoReady : Section → Type 0
HasNoReady s = (round_in s ≡ Closed) ⊎ (list_any is_startable (rows (slots_in s)) ≡ false)

abbrev pub redone_of : Round → Option ℕ
redone_of (Later i) = Some i
redone_of _ = None

-- the slot that is redone in this round
abbrev pub redone_in : Section → Option ℕ
redone_in s = redone_of (round_in s)

-- slot i is for a goal of that predicate
abbrev pub IsGoalOf : ℕ → Section → ℕ → Type 0
IsGoalOf i s number = (p : Pushed) × (slice_get (goals_in s) (i - 1) ≡ Some p) × (p.predicate ≡ number)

-- that predicate is in the table, with as many arguments as slot i's goal has
abbrev pub IsKnownAt : Compiled → ℕ → Section → ℕ → Type 0
IsKnownAt code i s number = (q : Predicate) × (slice_get code.predicates number ≡ Some q) × ((p : Pushed) → slice_get (goals_in s) (i - 1) ≡ Some p → length p.arguments ≡ q.arity)

-- the arguments of slot i's goal, up to names
abbrev pub IsParcelOf : ℕ → Section → Trees → Type 0
IsParcelOf i s ts =
    (p : Pushed) × (slice_get (goals_in s) (i - 1) ≡ Some p) × SameUpToNames ts (tuple_under (tree_at (trees (cells_at (stack_in s)))) p.arguments) × (count_trees ts ≡ length p.arguments)

-- ---- what becomes of it

abbrev pub readied_stack : ℕ → Stack → Stack
readied_stack i bottom = bottom
readied_stack i (parcall f q rd w qs st) = parcall f q rd (readied_behind i w) qs st

-- slots behind slot i that wait are ready
abbrev pub readied_in : ℕ → Section → Section
readied_in i (section m c b st) = section m c b (readied_stack i st)

abbrev pub taken_stack : ℕ → ℕ → Stack → Stack
taken_stack i r bottom = bottom
taken_stack i r (parcall f q rd w qs st) = parcall f r (Later i) (taken i r q w) qs st

-- slot i is redone with all calls that are left
abbrev pub taken_in : ℕ → Section → Section
taken_in i (section m c b st) = section m c b (taken_stack i (b - c) st)

abbrev pub held_spent : Held → ℕ
held_spent nothing = 0
held_spent (held (section m c b st)) = c

abbrev pub is_held : Held → Bool
is_held nothing = false
is_held (held s) = true

-- that section, where it goes on with the rest r
abbrev pub IsGoneOn : ℕ → Held → Section → Type 0
IsGoneOn r nothing s = ⊥
IsGoneOn r (held a) s = s ≡ gone_on r a

abbrev pub closed_stack : Stack → Stack
closed_stack bottom = bottom
closed_stack (parcall f q rd w qs st) = parcall f q Closed w qs st
