-- How a section stands after an event of a slot.
use Rattle.std.specs.Prelude.{◌≡◌, ℕ, zero, suc, Option, Some, None, [], length}
use Rattle.ap_term.specs.Tree.{Tree}
use Rattle.ap_core.specs.declared.events.Kind.{Kind}
use Rattle.ap_core.specs.Tasks as core
use Rattle.ap_core.specs.Tasks.{Task, task, exhausted, alternative, state, frame, Progress}
use Rattle.ap_core.specs.Relation.{Rules, Recorded, in_task, at_slot, mapped}
use Rattle.ap_frames.specs.Slots.{tuples_of}
use Rattle.ap_parcall_laws.specs.Alike.{StandsAs}
use Rattle.ap_tracked.specs.Tracked.{Tracked}
use Rattle.ap_instr.specs.Code.{Compiled}
use Rattle.ap_tie.specs.Sections.{Row, Section, section, Stack, bottom, parcall, Slots, no_slot, slot, Held}
use Rattle.ap_tie.specs.Tied.{HoldsTask, HoldsSource}

-- ---- slots by their places, from 1

-- slot i is another one
abbrev pub put_in : ℕ → Row → Held → Slots → Slots
put_in i e a no_slot = no_slot
put_in zero e a (slot x h w) = slot x h w
put_in (suc zero) e a (slot x h w) = slot e a w
put_in (suc (suc i)) e a (slot x h w) = slot x h (put_in (suc i) e a w)

abbrev pub put_stack : ℕ → Row → Held → Stack → Stack
put_stack i e a bottom = bottom
put_stack i e a (parcall f q rd w qs st) = parcall f q rd (put_in i e a w) qs st

-- of the frame that comes first
abbrev pub put_section : ℕ → Row → Held → Section → Section
put_section i e a (section m c b st) = section m c b (put_stack i e a st)

-- a slot's goal, whether its answers are kept, and its progress
abbrev pub place_in : ℕ → core.Slots → Option (Tree × Recorded)
place_in i core.no_slot = None
place_in zero (core.slot g k x w) = None
place_in (suc zero) (core.slot g k x w) = Some (g, (k, x))
place_in (suc (suc i)) (core.slot g k x w) = place_in (suc i) w

-- the same in the frame that comes first, with the number from which the goal's new variables begin
abbrev pub slot_of : ℕ → Task → Option (ℕ × (Tree × Recorded))
slot_of i (task r c exhausted) = None
slot_of i (task r c (alternative (state s) l)) = None
slot_of i (task r c (alternative (frame s rd w) l)) = mapped (λ z. (s.next, z)) (place_in i w)

abbrev pub rest_of : Task → ℕ
rest_of (task r c l) = r

-- the slot and what it holds stand for a goal with that progress, in a round with the rest r
abbrev pub FitsSlot : Compiled → Rules → ℕ → ℕ → Tree → Row → Held → Progress → Type 0
FitsSlot code p r b g x h y = (x.is_loud ≡ p.loud g) × StandsAs r x.stand (length (tuples_of x)) y × HoldsSource code p b g h y

-- Where an event of slot i is the core's, and the slot that is put fits what the event leaves of the goal, the section with that slot stands for the
-- task that the event leaves.
abbrev pub SlotLaw : Type 0
SlotLaw =
    (code : Compiled) (p : Rules) (o : Tracked) (s : Section) (i : ℕ) (t u : Task) (k : Kind) (e : Row) (a : Held) → HoldsTask code p o s t → in_task p k i [] t ≡ Some u
    → ((b : ℕ) (g : Tree) (x y : Recorded) → slot_of i t ≡ Some (b, (g, x)) → at_slot p k (rest_of t) b g x.0 x.1 ≡ Some y → FitsSlot code p (rest_of t) b g e a y.1)
    → HoldsTask code p o (put_section i e a s) u
