-- A frame as a record of lists, what its slots have cost, and what a call does to one of them.
use Rattle.std.specs.Prelude.{◌≡◌, ℕ, zero, suc, ◌+◌, ◌-◌, ◌<◌, ◌≤◌, Bool, true, false, if◌then◌else◌, List, [], ◌∷◌, length, slice_get, slice_set, Option, Some, None}
use Rattle.ap_frames.specs.declared.slots.Slot.{Slot}
use Rattle.ap_frames.specs.declared.slots.Stand.{Stand}
use Rattle.ap_frames.specs.declared.slots.Stand.TheVariants.{Ready, Waiting, Running, Answered, Replayed, Ended, GivenBack}
use Rattle.ap_frames.specs.declared.slots.Ending.{Ending}
use Rattle.ap_frames.specs.declared.slots.Ending.TheVariants.{Stopped}
use Rattle.ap_frames.specs.declared.slots.Recording.TheVariants.{Growing}
use Rattle.ap_frames.specs.declared.frame.Frame.{Frame}
use Rattle.ap_frames.specs.declared.frame.Round.{Round}
use Rattle.ap_frames.specs.declared.frame.Round.TheVariants.{First}
use Rattle.ap_frames.specs.Slots.{has_answer, ending_of, cost_of}

-- the rest that its round was begun with, the round, the mark, the slots
pub record Row (S T : Type 0) : Type 0 where
  pub rest : ℕ
  pub round : Round
  pub mark : Option (ℕ × ℕ)
  pub slots : List (Slot S T)

abbrev pub row : {S T : Type 0} → Frame S T → Row S T
row f = record { rest = f.rest; round = f.round; mark = f.mark; slots = f.slots.items }

abbrev pub with_slots : {S T : Type 0} → List (Slot S T) → Row S T → Row S T
with_slots xs f = record { rest = f.rest; round = f.round; mark = f.mark; slots = xs }

-- ---- places, from 1

abbrev pub IsPlace : {S T : Type 0} → ℕ → Row S T → Type 0
IsPlace i f = (0 < i) × (i ≤ length f.slots)

abbrev pub slot_at : {S T : Type 0} → ℕ → Row S T → Option (Slot S T)
slot_at i f = slice_get f.slots (i - 1)

-- slot i is one of a kind
abbrev pub IsAt : {S T : Type 0} → (Slot S T → Bool) → ℕ → Row S T → Type 0
IsAt {S} {T} f i r = (x : Slot S T) × (slot_at i r ≡ Some x) × (f x ≡ true)

-- what is told of a slot, where there is one
abbrev pub of_slot : {S T A : Type 0} → (Slot S T → A) → A → Option (Slot S T) → A
of_slot f d None = d
of_slot f d (Some x) = f x

abbrev pub at_place : {S T : Type 0} → (Slot S T → Slot S T) → ℕ → List (Slot S T) → List (Slot S T)
at_place f i [] = []
at_place f zero (x ∷ xs) = f x ∷ xs
at_place f (suc i) (x ∷ xs) = x ∷ at_place f i xs

-- slot i is changed, and no other
abbrev pub with_slot : {S T : Type 0} → (Slot S T → Slot S T) → ℕ → Row S T → Row S T
with_slot f i r = with_slots (at_place f (i - 1) r.slots) r

abbrev pub standing : {S T : Type 0} → Stand S → Slot S T → Slot S T
standing y x = record x { stand = y }

-- slot i stands so
abbrev pub stood : {S T : Type 0} → ℕ → Stand S → Row S T → Row S T
stood i y r = with_slot (standing y) i r

-- ---- opened, stopped, marked

abbrev pub fresh : (S T : Type 0) → Bool → Slot S T
fresh S T b = record { stand = Ready; is_loud = b; recording = Growing; tuples = None; mark = None }

abbrev pub all_fresh : (S T : Type 0) → List Bool → List (Slot S T)
all_fresh S T [] = []
all_fresh S T (b ∷ bs) = fresh S T b ∷ all_fresh S T bs

-- one ready slot for each goal, of which the list says whether it is loud
abbrev pub opened : (S T : Type 0) → ℕ → List Bool → Row S T
opened S T rest loud = record { rest = rest; round = First; mark = None; slots = all_fresh S T loud }

abbrev pub answered : {S : Type 0} → Option S → ℕ → Bool → Stand S
answered s spent more = Answered (record { section = s; cost = spent; has_more = more })

-- a slot that has stopped: as it was asked to, or not
abbrev pub stopped : (S : Type 0) → Bool → ℕ → Stand S
stopped S true spent = Ended Stopped spent
stopped S false spent = GivenBack

abbrev pub marked : {S T : Type 0} → Option (ℕ × ℕ) → Slot S T → Slot S T
marked m x = record x { mark = m }

-- number 0 is the frame itself
abbrev pub with_mark : {S T : Type 0} → ℕ → Option (ℕ × ℕ) → Row S T → Row S T
with_mark zero m r = record r { mark = m }
with_mark (suc i) m r = with_slot (marked m) (suc i) r

abbrev pub mark_at : {S T : Type 0} → ℕ → Row S T → Option (ℕ × ℕ)
mark_at zero r = r.mark
mark_at (suc i) r = of_slot (λ x. x.mark) None (slot_at (suc i) r)

abbrev pub with_round : {S T : Type 0} → Round → Row S T → Row S T
with_round d r = record r { round = d }
