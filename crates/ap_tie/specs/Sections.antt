-- A section as its callers see it: a machine, and below it the frames with the choice points between them.
use Rattle.std.specs.Prelude.{ℕ, List, [], ◌∷◌}
use Rattle.ap_term.specs.Tree.{Trees}
use Rattle.ap_frames.specs.declared.frame.Round.{Round}
use Rattle.ap_frames.specs.declared.slots.Slot.{Slot}
use Rattle.ap_group.specs.Groups.{Forked}
use Rattle.ap_standing.specs.Machine.{Point, Machine}

-- a slot of a frame, without the section that it may hold; its record has tuples
abbrev pub Row : Type 0
Row = Slot (Unit {0}) Trees

mutual
  -- The machine has the choice points that are newer than the newest frame. Beside it: the calls that were made, those that
  -- may be made at most, and what is older.
  pub data Section : Type 0 where
    section : Machine → ℕ → ℕ → Stack → Section

  -- A frame, with the rest that its round was opened with, and the choice points behind it that are newer than the next
  -- frame.
  pub data Stack : Type 0 where
    bottom : Stack
    parcall : Forked → ℕ → Round → Slots → List Point → Stack → Stack

  pub data Slots : Type 0 where
    no_slot : Slots
    slot : Row → Held → Slots → Slots

  -- what holds the alternatives of a slot's goal
  pub data Held : Type 0 where
    nothing : Held
    held : Section → Held

abbrev pub machine_in : Section → Machine
machine_in (section m c b st) = m

-- the slots without their sections
abbrev pub rows : Slots → List Row
rows no_slot = []
rows (slot x h w) = x ∷ rows w
