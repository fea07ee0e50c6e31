-- What slot i is, from a test of it.
use Rattle.std.proofs.Common.{◌≡◌, ℕ, Bool, true, false, Option, Some, None, refl}
use Rattle.std.proofs.lemmas.Bool.{false≢true}
use Rattle.ap_frames.specs.declared.slots.Slot.{Slot}
use Rattle.ap_frames.specs.Slots.{is_startable, is_running, is_recording}
use Rattle.ap_frames.specs.Rows.{Row, IsAt, slot_at, of_slot}

at : {S T : Type 0} (f : Slot S T → Bool) (i : ℕ) (r : Row S T) → of_slot f false (slot_at i r) ≡ true → IsAt f i r
at {S} {T} f i r h = go (slot_at i r) refl h
  where
    go : (o : Option (Slot S T)) → slot_at i r ≡ o → of_slot f false o ≡ true → IsAt f i r
    go None e k = absurd (false≢true k)
    go (Some x) e k = (x, e, k)

pub startable_at : {S T : Type 0} (i : ℕ) (r : Row S T) → of_slot is_startable false (slot_at i r) ≡ true → IsAt is_startable i r
startable_at i r h = at is_startable i r h

pub running_at : {S T : Type 0} (i : ℕ) (r : Row S T) → of_slot is_running false (slot_at i r) ≡ true → IsAt is_running i r
running_at i r h = at is_running i r h

pub recording_at : {S T : Type 0} (i : ℕ) (r : Row S T) → of_slot is_recording false (slot_at i r) ≡ true → IsAt is_recording i r
recording_at i r h = at is_recording i r h

pub ruleset at_rules = (startable_at, running_at, recording_at)
