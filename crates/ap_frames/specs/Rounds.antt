-- What becomes of a frame's slots when one of them is redone or drained, and when the slots right of a redone one are readied.
use Rattle.std.specs.Prelude.{◌≡◌, ℕ, suc, ◌+◌, ◌-◌, nat_lt, Bool, true, false, if◌then◌else◌, List, [], ◌∷◌, length, Option, Some, None}
use Rattle.std.specs.Ordering.{nat_cmp}
use Rattle.std.specs.declared.cmp.Ordering.{Ordering}
use Rattle.std.specs.declared.cmp.Ordering.TheVariants.{Less, Equal, Greater}
use Rattle.ap_frames.specs.declared.slots.Slot.{Slot}
use Rattle.ap_frames.specs.declared.slots.Stand.{Stand}
use Rattle.ap_frames.specs.declared.slots.Stand.TheVariants.{Ready, Waiting, Running, Answered, Replayed, Ended, GivenBack}
use Rattle.ap_frames.specs.declared.slots.Run.TheVariants.{Redone, Drained}
use Rattle.ap_frames.specs.declared.slots.Run.{Run}
use Rattle.ap_frames.specs.declared.slots.Recording.{Recording}
use Rattle.ap_frames.specs.declared.slots.Recording.TheVariants.{Growing, Whole, GivenUp}
use Rattle.ap_frames.specs.declared.frame.Round.{Round}
use Rattle.ap_frames.specs.declared.frame.Round.TheVariants.{First, Draining, Later, Closed}
use Rattle.ap_frames.specs.Slots.{tuples_of}
use Rattle.ap_frames.specs.Rows.{Row, with_slots, slot_at, stood}

-- each slot changed by its number, the first one's being n
abbrev pub numbered : {S T : Type 0} → (ℕ → Slot S T → Slot S T) → ℕ → List (Slot S T) → List (Slot S T)
numbered f n [] = []
numbered f n (x ∷ xs) = f n x ∷ numbered f (n + 1) xs

-- ---- a new round

abbrev pub without_cost : {S : Type 0} → Stand S → Stand S
without_cost (Answered a) = Answered (record { section = a.section; cost = 0; has_more = a.has_more })
without_cost y = y

abbrev pub whole : Recording → Recording
whole Growing = Whole
whole Whole = Whole
whole GivenUp = GivenUp

-- by where it stands to the redone slot: left of it an answer stays and has cost nothing in the new round; right of it a slot
-- waits, and its search is over
abbrev pub reset : {S T : Type 0} → Ordering → Slot S T → Slot S T
reset Less x = record x { stand = without_cost x.stand }
reset Equal x = x
reset Greater x = record x { stand = Waiting; recording = whole x.recording }

abbrev pub reset_by : {S T : Type 0} → ℕ → ℕ → Slot S T → Slot S T
reset_by i n x = reset (nat_cmp n i) x

-- a round with that rest in which slot i is redone
abbrev pub new_round : {S T : Type 0} → ℕ → ℕ → Row S T → Row S T
new_round i rest f = record { rest = rest; round = Later i; mark = f.mark; slots = numbered (reset_by i) 1 f.slots }

-- what was charged before a drain is what the rest has lost; the slots and their costs stay
abbrev pub draining : {S T : Type 0} → ℕ → Row S T → Row S T
draining rest f = record { rest = f.rest; round = Draining (f.rest - rest); mark = f.mark; slots = f.slots }

-- a slot of a closed frame is redone, one of an open frame drained
abbrev pub begun_in : {S T : Type 0} → Round → ℕ → ℕ → Row S T → Row S T
begun_in Closed i rest f = new_round i rest f
begun_in First i rest f = draining rest f
begun_in (Draining before) i rest f = draining rest f
begun_in (Later j) i rest f = draining rest f

abbrev pub run_in : Round → Run
run_in Closed = Redone
run_in First = Drained
run_in (Draining before) = Drained
run_in (Later j) = Drained

-- slot i runs on with that rest
abbrev pub resumed : {S T : Type 0} → ℕ → ℕ → Row S T → Row S T
resumed i rest f = stood i (Running (run_in f.round)) (begun_in f.round i rest f)

-- ---- behind a redone slot that has answered

abbrev pub readied_stand : {S : Type 0} → Stand S → Stand S
readied_stand Waiting = Ready
readied_stand y = y

-- one that waits is ready
abbrev pub readied : {S T : Type 0} → Slot S T → Slot S T
readied x = record x { stand = readied_stand x.stand }

abbrev pub replayed_stand : {S : Type 0} → Bool → Stand S → Stand S
replayed_stand true Waiting = Replayed 0
replayed_stand b y = readied_stand y

-- one that waits stands at the first answer of its record, where it has one, else it is ready
abbrev pub replayed : {S T : Type 0} → Slot S T → Slot S T
replayed x = record x { stand = replayed_stand (nat_lt 0 (length (tuples_of x))) x.stand }

-- if it stands behind a place
abbrev pub behind : {S T : Type 0} → (Slot S T → Slot S T) → ℕ → ℕ → Slot S T → Slot S T
behind f i n x = if nat_lt i n then f x else x

abbrev pub restarted : {S T : Type 0} → ℕ → Row S T → Row S T
restarted i f = with_slots (numbered (behind readied i) 1 f.slots) f

abbrev pub replayed_after : {S T : Type 0} → ℕ → Row S T → Row S T
replayed_after i f = with_slots (numbered (behind replayed i) 1 f.slots) f

-- ---- the next stored answer

abbrev pub next_stored : {S : Type 0} → Stand S → Stand S
next_stored (Replayed k) = Replayed (k + 1)
next_stored y = y

abbrev pub next_at : {S T : Type 0} → Option (Slot S T) → Stand S
next_at None = Waiting
next_at (Some x) = next_stored x.stand

-- slot i stands at its next stored answer, in a round with that rest
abbrev pub replayed_next : {S T : Type 0} → ℕ → ℕ → Row S T → Row S T
replayed_next i rest f = stood i (next_at (slot_at i f)) (new_round i rest f)
