-- A section as its callers see it.
use Rattle.std.specs.Prelude.{ℕ, List, [], ◌∷◌, reverse, Option, Some, None}
use Rattle.ap_term.specs.Tree.{Trees}
use Rattle.ap_frames.specs.declared.frame.Frame.{Frame}
use Rattle.ap_frames.specs.declared.slots.Slot.{Slot}
use Rattle.ap_frames.specs.declared.slots.Stand.{Stand}
use Rattle.ap_frames.specs.declared.slots.Stand.TheVariants.{Ready, Waiting, Running, Answered, Replayed, Ended, GivenBack}
use Rattle.ap_machine.specs.View.{Segment, Paused}
use Rattle.ap_tie.specs.Sections as seen
use Rattle.ap_tie.specs.Sections.{Row, section, Stack, bottom, parcall, Slots, no_slot, slot, Held, nothing, held}
use Rattle.ap_section.specs.declared.section.Section.{Section, fold-Section}
use Rattle.ap_section.specs.declared.section.Section.TheOpen.{Section-F}

-- ---- slots

abbrev pub bare_section : {S : Type 0} → Option S → Option (Unit {0})
bare_section None = None
bare_section (Some s) = Some tt

-- without its section
abbrev pub bare : {S : Type 0} → Stand S → Stand (Unit {0})
bare Ready = Ready
bare Waiting = Waiting
bare (Running r) = Running r
bare (Answered a) = Answered (record { section = bare_section a.section; cost = a.cost; has_more = a.has_more })
bare (Replayed k) = Replayed k
bare (Ended e c) = Ended e c
bare GivenBack = GivenBack

abbrev pub held_of : Option seen.Section → Held
held_of None = nothing
held_of (Some s) = held s

abbrev pub held_by : Stand seen.Section → Held
held_by (Answered a) = held_of a.section
held_by _ = nothing

abbrev pub row_of : {S : Type 0} → Slot S Trees → Row
row_of x = record { stand = bare x.stand; is_loud = x.is_loud; recording = x.recording; tuples = x.tuples; mark = x.mark }

abbrev pub slots_of : List (Slot seen.Section Trees) → Slots
slots_of [] = no_slot
slots_of (x ∷ xs) = slot (row_of x) (held_by x.stand) (slots_of xs)

-- ---- frames

-- the k-th newest fork is that of the k-th newest frame
abbrev pub stack_of : List Segment → List (Frame seen.Section Trees) → Stack
stack_of [] fs = bottom
stack_of (g ∷ gs) [] = bottom
stack_of (g ∷ gs) (f ∷ fs) = parcall g.forked f.rest f.round (slots_of f.slots.items) g.points (stack_of gs fs)

abbrev pub section_of : Paused → List (Frame seen.Section Trees) → seen.Section
section_of p fs = section p.machine p.spent p.budget (stack_of p.older fs)

abbrev pub section_level : Section-F seen.Section → seen.Section
section_level s = section_of s.search (reverse s.frames.items)

-- the section, of which frames and sections in slots stand as they do
abbrev pub view_of : Section → seen.Section
view_of = fold-Section seen.Section section_level

-- ---- what is read of it

abbrev pub spent_in : seen.Section → ℕ
spent_in (section m c b st) = c

abbrev pub budget_in : seen.Section → ℕ
budget_in (section m c b st) = b
