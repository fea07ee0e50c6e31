-- One slot of a list, changed.
use Rattle.std.proofs.Common.{◌≡◌, ℕ, zero, suc, ◌+◌, ◌-◌, ◌<◌, ◌≤◌, List, [], ◌∷◌, ◌++◌, length, get_or, set, slice_get, refl, ap, sym, ◌∙◌, arith}
use Rattle.std.proofs.lemmas.Option.{slice_get-get_or}
use Rattle.ap_frames.specs.declared.slots.Slot.{Slot}
use Rattle.ap_frames.specs.Slots.{tuples_of}
use Rattle.ap_frames.specs.Rows.{Row, with_slots, of_slot, at_place}
use Rattle.ap_frames.specs.Records.{storing, HasOneMore, IsStored}

pub set_at : {S T : Type 0} (f : Slot S T → Slot S T) (i : ℕ) (xs : List (Slot S T)) (v d : Slot S T) → i < length xs → v ≡ f (get_or xs i d) → set xs i v ≡ at_place f i xs
set_at f i [] v d h e = absurd (omega arith)
set_at f zero (x ∷ xs) v d h e = ap (λ y. y ∷ xs) e
set_at f (suc i) (x ∷ xs) v d h e = ap (λ ys. x ∷ ys) (set_at f i xs v d (omega arith) e)

pub ruleset place_rules = set_at

-- one answer more in slot i
pub stored_at_place : {S T : Type 0} (f : Row S T) (i : ℕ) (t : T) (y d : Slot S T) → 0 < i → i ≤ length f.slots → HasOneMore t (get_or f.slots (i - 1) d) y
    → IsStored i t f (with_slots (set f.slots (i - 1) y) f)
stored_at_place f i t y d h k (v, e, w) =
    let l : i - 1 < length f.slots = omega arith in
    (v, e ∙ sym (ap (λ o. of_slot tuples_of [] o ++ t ∷ []) (slice_get-get_or f.slots (i - 1) d l)), ap (λ ys. with_slots ys f) (set_at (storing v) (i - 1) f.slots y d l w))
