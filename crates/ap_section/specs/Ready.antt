-- What each search in a section is ready for.
use Rattle.std.specs.Prelude.{◌≡◌, ℕ, ◌-◌, ◌⊎◌, List, [], ◌∷◌, ◌++◌, length, reverse, map, Option, Some, None}
use Rattle.std.specs.List.{AllByRecursion}
use Rattle.ap_term.specs.Tree.{Trees}
use Rattle.ap_frames.specs.declared.frame.Frame.{Frame}
use Rattle.ap_frames.specs.declared.frame.Round.{Round}
use Rattle.ap_frames.specs.declared.frame.Round.TheVariants.{Closed}
use Rattle.ap_frames.specs.declared.slots.Slot.{Slot}
use Rattle.ap_frames.specs.declared.slots.Stand.{Stand}
use Rattle.ap_frames.specs.declared.slots.Stand.TheVariants.{Answered}
use Rattle.ap_instr.specs.Code.{Compiled}
use Rattle.ap_machine.specs.View.{Segment, Paused, IsFor}
use Rattle.ap_tie.specs.Settled.{HasFailed}
use Rattle.ap_tied.specs.Ties.{IsCount, IsKnownGoal}
use Rattle.ap_section.specs.declared.section.Section.{Section, fold-Section}
use Rattle.ap_section.specs.Slots.{IsSlotOf}
use Rattle.ap_section.specs.declared.section.Section.TheOpen.{Section-F}

-- of a frame: the rest and the round, and how many slots there are
pub record Shape : Type 0 where
  pub rest : ℕ
  pub round : Round
  pub count : ℕ

-- a search in a section, with its frames from the newest on
pub record Part : Type 0 where
  pub search : Paused
  pub frames : List Shape

abbrev pub shape_of : {S : Type 0} → Frame S Trees → Shape
shape_of f = record { rest = f.rest; round = f.round; count = length f.slots.items }

abbrev pub parts_held : Option (List Part) → List Part
parts_held None = []
parts_held (Some ps) = ps

abbrev pub parts_at : Stand (List Part) → List Part
parts_at (Answered a) = parts_held a.section
parts_at _ = []

abbrev pub parts_of_slots : List (Slot (List Part) Trees) → List Part
parts_of_slots [] = []
parts_of_slots (x ∷ xs) = parts_at x.stand ++ parts_of_slots xs

abbrev pub parts_of_frames : List (Frame (List Part) Trees) → List Part
parts_of_frames [] = []
parts_of_frames (f ∷ fs) = parts_of_slots f.slots.items ++ parts_of_frames fs

abbrev pub parts_level : Section-F (List Part) → List Part
parts_level s = record { search = s.search; frames = map shape_of (reverse s.frames.items) } ∷ parts_of_frames s.frames.items

-- its own search, and those of the sections that its slots hold
abbrev pub parts_of : Section → List Part
parts_of = fold-Section (List Part) parts_level

-- ---- ready

-- the k-th newest frame has a slot for each goal of the k-th newest fork, or is cleared, and the code knows the goals
abbrev pub AreMatched : Compiled → List Segment → List Shape → Type 0
AreMatched code [] [] = Unit {0}
AreMatched code [] (a ∷ bs) = ⊥
AreMatched code (g ∷ gs) [] = ⊥
AreMatched code (g ∷ gs) (a ∷ bs) = IsCount a.round a.count (length g.forked.goals) × AllByRecursion (IsKnownGoal code) g.forked.goals × AreMatched code gs bs

abbrev pub AreShut : List Shape → Type 0
AreShut fs = AllByRecursion (λ f. f.round ≡ Closed) fs

-- it is at the newest fork, and nothing newer is left to do; the frame's round has the calls that are left
abbrev pub IsAtNewest : Paused → List Segment → Shape → Type 0
IsAtNewest p [] a = ⊥
IsAtNewest p (g ∷ gs) a = HasFailed p.machine.roots [] p.machine × (p.machine.cells ≡ g.forked.cells) × (a.rest ≡ p.budget - p.spent) × IsSlotOf a.count a.round

-- all frames are closed but the newest one, which may be open where nothing but it is left to do
abbrev pub AreInOrder : Paused → List Shape → Type 0
AreInOrder p [] = Unit {0}
AreInOrder p (a ∷ bs) = ((a.round ≡ Closed) ⊎ IsAtNewest p p.older a) × AreShut bs

-- a section's own search is ready
abbrev pub IsReadyPart : Compiled → Part → Type 0
IsReadyPart code a = IsFor code a.search × AreMatched code a.search.older a.frames × AreInOrder a.search a.frames

-- one whose section a slot holds is
abbrev pub IsShutPart : Compiled → Part → Type 0
IsShutPart code a = IsFor code a.search × AreMatched code a.search.older a.frames × AreShut a.frames

abbrev pub AreReady : Compiled → List Part → Type 0
AreReady code [] = ⊥
AreReady code (a ∷ bs) = IsReadyPart code a × AllByRecursion (IsShutPart code) bs

-- The section goes on by the code: each search is for it, there is a frame for each fork, and all rounds are closed but, where
-- its search is at the newest fork, that one's.
abbrev pub IsReady : Compiled → Section → Type 0
IsReady code s = AreReady code (parts_of s)

-- it goes on by the code, and all frames are closed, as those of a section that a slot holds
abbrev pub IsShut : Compiled → Section → Type 0
IsShut code s = AllByRecursion (IsShutPart code) (parts_of s)
