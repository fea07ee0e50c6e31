-- Slots that give away the sections that they hold.
use Rattle.std.specs.Prelude.{ℕ, zero, suc, Bool, true, false, Option, None}
use Rattle.ap_frames.specs.declared.slots.Slot.{Slot}
use Rattle.ap_frames.specs.declared.slots.Stand.{Stand}
use Rattle.ap_frames.specs.declared.slots.Stand.TheVariants.{Ready, Waiting, Running, Answered, Replayed, Ended, GivenBack}
use Rattle.ap_frames.specs.Rows.{standing}
use Rattle.ap_tie.specs.Sections.{Section, section, Stack, bottom, parcall, Slots, no_slot, slot, Held, nothing}

-- what an answer holds then, by whether there is another one
abbrev pub left_of : {S : Type 0} → Bool → Option S → Option S
left_of true s = s
left_of false s = None

abbrev pub emptied_stand : {S : Type 0} → Stand S → Stand S
emptied_stand (Answered a) = Answered (record { section = left_of a.has_more a.section; cost = a.cost; has_more = a.has_more })
emptied_stand Ready = Ready
emptied_stand Waiting = Waiting
emptied_stand (Running r) = Running r
emptied_stand (Replayed k) = Replayed k
emptied_stand (Ended e c) = Ended e c
emptied_stand GivenBack = GivenBack

-- a slot at an answer behind which there is no other one holds nothing
abbrev pub emptied : {S T : Type 0} → Slot S T → Slot S T
emptied x = standing (emptied_stand x.stand) x

abbrev pub hold_of : Bool → Held → Held
hold_of true h = h
hold_of false h = nothing

abbrev pub hold_by : {S : Type 0} → Stand S → Held → Held
hold_by (Answered a) h = hold_of a.has_more h
hold_by Ready h = h
hold_by Waiting h = h
hold_by (Running r) h = h
hold_by (Replayed k) h = h
hold_by (Ended e c) h = h
hold_by GivenBack h = h

-- the slots behind the first i
abbrev pub emptied_behind : ℕ → Slots → Slots
emptied_behind i no_slot = no_slot
emptied_behind zero (slot x h w) = slot (emptied x) (hold_by x.stand h) (emptied_behind zero w)
emptied_behind (suc i) (slot x h w) = slot x h (emptied_behind i w)

-- of the frame that comes first
abbrev pub emptied_stack : ℕ → Stack → Stack
emptied_stack i bottom = bottom
emptied_stack i (parcall f q rd w qs st) = parcall f q rd (emptied_behind i w) qs st

abbrev pub emptied_in : ℕ → Section → Section
emptied_in i (section m c b st) = section m c b (emptied_stack i st)
