-- What a section owes: the calls that it made itself, and those that were made for slots of an open round.
use Rattle.std.specs.Prelude.{◌≡◌, ℕ, ◌+◌, ◌≤◌, List, [], ◌∷◌}
use Rattle.ap_frames.specs.declared.frame.Round.{Round}
use Rattle.ap_frames.specs.declared.frame.Round.TheVariants.{First, Draining, Later, Closed}
use Rattle.ap_frames.specs.Slots.{cost_of}
use Rattle.ap_tie.specs.Sections.{Row, Section, section, Stack, bottom, parcall, rows}
use Rattle.ap_section.specs.Views.{budget_in}

-- what slots have cost in their round
abbrev pub costs_of : List Row → ℕ
costs_of [] = 0
costs_of (x ∷ xs) = cost_of x + costs_of xs

-- what isn't charged yet: a round that is over was charged
abbrev pub open_cost : Round → List Row → ℕ
open_cost First xs = costs_of xs
open_cost (Draining n) xs = n + costs_of xs
open_cost (Later i) xs = costs_of xs
open_cost Closed xs = 0

-- of the frame that comes first, since no other one is open
abbrev pub frame_cost : Stack → ℕ
frame_cost bottom = 0
frame_cost (parcall f q rd w qs st) = open_cost rd (rows w)

abbrev pub owed : Section → ℕ
owed (section m c b st) = c + frame_cost st

-- it owes no more than it did, and may make as many calls in all
pub record OwesNoMore (s t : Section) : Type 0 where
  pub budget : budget_in t ≡ budget_in s
  pub owes : owed t ≤ owed s
