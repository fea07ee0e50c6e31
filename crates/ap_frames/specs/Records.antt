-- Stored answers.
use Rattle.std.specs.Prelude.{◌≡◌, ℕ, ◌+◌, ◌-◌, nat_lt, nat_eq, Bool, true, false, ◌&&◌, not, List, [], ◌∷◌, ◌++◌, length, take, Option, Some, None}
use Rattle.std.specs.List.{list_any}
use Rattle.std.proofs.Common.{Vec, Global}
use Rattle.ap_frames.specs.declared.slots.Slot.{Slot}
use Rattle.ap_frames.specs.declared.slots.Stand.{Stand}
use Rattle.ap_frames.specs.declared.slots.Stand.TheVariants.{Answered, Replayed}
use Rattle.ap_frames.specs.declared.slots.Recording.TheVariants.{Growing, Whole, GivenUp}
use Rattle.ap_frames.specs.declared.frame.Round.{Round}
use Rattle.ap_frames.specs.declared.frame.Round.TheVariants.{First, Draining, Later, Closed}
use Rattle.ap_frames.specs.declared.records.Kept.{Kept as KeptAs}
use Rattle.ap_frames.specs.declared.records.Kept.TheVariants.{Kept, Dropped}
use Rattle.ap_frames.specs.Slots.{tuples_of, has_more, is_recording}
use Rattle.ap_frames.specs.Rows.{Row, slot_at, of_slot, with_slot}

-- how many answers the slots have stored
abbrev pub stored : {S T : Type 0} → List (Slot S T) → ℕ
stored [] = 0
stored (x ∷ xs) = length (tuples_of x) + stored xs

-- ---- whether an answer is to be stored

-- the answer of slot i came in this round: in the first one each did, in a later one that of the redone slot
abbrev pub is_new : ℕ → Round → Bool
is_new i First = true
is_new i (Draining before) = true
is_new i (Later j) = nat_eq i j
is_new i Closed = false

abbrev pub is_found : {S : Type 0} → Stand S → Bool
is_found (Answered a) = true
is_found _ = false

-- it has an answer of its own, and its answers are stored
abbrev pub is_news : {S T : Type 0} → Slot S T → Bool
is_news x = is_found x.stand && is_recording x

-- it is new, the slot's answers are stored, and a slot to the left has an alternative, for without one it is never asked for again
abbrev pub is_to_keep : {S T : Type 0} → ℕ → Row S T → Bool
is_to_keep i f = is_new i f.round && of_slot is_news false (slot_at i f) && list_any has_more (take (i - 1) f.slots)

-- ---- storing

abbrev pub storing : {S T : Type 0} → Vec T Global → Slot S T → Slot S T
storing v x = record x { tuples = Some v }

-- it has that answer behind those that it has stored
abbrev pub HasOneMore : {S T : Type 0} → T → Slot S T → Slot S T → Type 0
HasOneMore {S} {T} t old new = (v : Vec T Global) × (v.items ≡ tuples_of old ++ t ∷ []) × (new ≡ storing v old)

abbrev pub stored_at : {S T : Type 0} → ℕ → Row S T → List T
stored_at i f = of_slot tuples_of [] (slot_at i f)

-- slot i has one answer more behind those that it has stored, and nothing else changes
abbrev pub IsStored : {S T : Type 0} → ℕ → T → Row S T → Row S T → Type 0
IsStored {S} {T} i t old new = (v : Vec T Global) × (v.items ≡ stored_at i old ++ t ∷ []) × (new ≡ with_slot (storing v) i old)

abbrev pub without_record : {S T : Type 0} → Slot S T → Slot S T
without_record x = record x { recording = GivenUp; tuples = None }

-- the record of slot i is given up
abbrev pub given_up : {S T : Type 0} → ℕ → Row S T → Row S T
given_up i f = with_slot without_record i f

-- what becomes of the frame by what was answered
abbrev pub IsAfter : {S T : Type 0} → KeptAs → ℕ → T → Row S T → Row S T → Type 0
IsAfter Kept i t old new = IsStored i t old new
IsAfter Dropped i t old new = new ≡ given_up i old
