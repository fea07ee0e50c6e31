-- What is asked of one slot.
use Rattle.std.specs.Prelude.{ℕ, ◌+◌, Bool, true, false, ◌&&◌, not, nat_lt, is_some, is_none, List, [], length, slice_get, Option, Some, None}
use Rattle.std.proofs.Common.{Vec, Global}
use Rattle.ap_frames.specs.declared.slots.Slot.{Slot}
use Rattle.ap_frames.specs.declared.slots.Answer.{Answer}
use Rattle.ap_frames.specs.declared.slots.Stand.{Stand}
use Rattle.ap_frames.specs.declared.slots.Stand.TheVariants.{Ready, Waiting, Running, Answered, Replayed, Ended, GivenBack}
use Rattle.ap_frames.specs.declared.slots.Run.TheVariants.{First, Redone, Drained}
use Rattle.ap_frames.specs.declared.slots.Ending.{Ending}
use Rattle.ap_frames.specs.declared.slots.Ending.TheVariants.{Failed, Spent, Stopped, Raised}
use Rattle.ap_frames.specs.declared.slots.Recording.{Recording}
use Rattle.ap_frames.specs.declared.slots.Recording.TheVariants.{Growing, Whole, GivenUp}

-- ---- how it stands

abbrev pub stands_answered : {S : Type 0} → Stand S → Bool
stands_answered (Answered a) = true
stands_answered (Replayed k) = true
stands_answered _ = false

-- it stands at an answer
abbrev pub has_answer : {S T : Type 0} → Slot S T → Bool
has_answer x = stands_answered x.stand

abbrev pub ends : {S : Type 0} → Stand S → Option Ending
ends (Ended e c) = Some e
ends _ = None

-- why it has no answer, where it ran to an end
abbrev pub ending_of : {S T : Type 0} → Slot S T → Option Ending
ending_of x = ends x.stand

abbrev pub is_failure : Option Ending → Bool
is_failure (Some Failed) = true
is_failure _ = false

abbrev pub has_failed : {S T : Type 0} → Slot S T → Bool
has_failed x = is_failure (ending_of x)

abbrev pub stands_running : {S : Type 0} → Stand S → Bool
stands_running (Running r) = true
stands_running _ = false

abbrev pub is_running : {S T : Type 0} → Slot S T → Bool
is_running x = stands_running x.stand

abbrev pub stands_first : {S : Type 0} → Stand S → Bool
stands_first (Running First) = true
stands_first _ = false

-- it may be given back: it runs from its goal on
abbrev pub may_be_given_back : {S T : Type 0} → Slot S T → Bool
may_be_given_back x = stands_first x.stand

abbrev pub stands_startable : {S : Type 0} → Stand S → Bool
stands_startable Ready = true
stands_startable GivenBack = true
stands_startable _ = false

abbrev pub is_startable : {S T : Type 0} → Slot S T → Bool
is_startable x = stands_startable x.stand

-- ---- its section and its record

abbrev pub section_at : {S : Type 0} → Stand S → Option S
section_at (Answered a) = a.section
section_at _ = None

-- the section that it holds
abbrev pub section_of : {S T : Type 0} → Slot S T → Option S
section_of x = section_at x.stand

abbrev pub stands_local : {S : Type 0} → Stand S → Bool
stands_local (Answered a) = is_none a.section
stands_local _ = false

-- its goal was answered in its owner's own section
abbrev pub is_local : {S T : Type 0} → Slot S T → Bool
is_local x = stands_local x.stand

abbrev pub replayed_at : {S : Type 0} → Stand S → Option ℕ
replayed_at (Replayed k) = Some k
replayed_at _ = None

-- it stands at an answer of its record
abbrev pub is_replayed : {S T : Type 0} → Slot S T → Bool
is_replayed x = is_some (replayed_at x.stand)

abbrev pub listed : {T : Type 0} → Option (Vec T Global) → List T
listed None = []
listed (Some v) = v.items

-- the answers that are stored
abbrev pub tuples_of : {S T : Type 0} → Slot S T → List T
tuples_of x = listed x.tuples

abbrev pub tuple_at : {T : Type 0} → List T → Option ℕ → Option T
tuple_at ts None = None
tuple_at ts (Some k) = slice_get ts k

-- the stored answer that it stands at
abbrev pub replayed_of : {S T : Type 0} → Slot S T → Option T
replayed_of x = tuple_at (tuples_of x) (replayed_at x.stand)

-- it stands at a stored answer, which is there
abbrev pub stands_at_stored : {S T : Type 0} → Slot S T → Bool
stands_at_stored x = is_some (replayed_of x)

abbrev pub grows : Recording → Bool
grows Growing = true
grows _ = false

-- its answers are stored as they come
abbrev pub is_recording : {S T : Type 0} → Slot S T → Bool
is_recording x = grows x.recording

-- ---- what counts in a verdict

abbrev pub more_at : {S : Type 0} → ℕ → Stand S → Bool
more_at n (Answered a) = a.has_more
more_at n (Replayed k) = nat_lt (k + 1) n
more_at n _ = false

-- it stands at an answer, and an alternative is left
abbrev pub has_more : {S T : Type 0} → Slot S T → Bool
has_more x = more_at (length (tuples_of x)) x.stand

-- an alternative is left that may meet a fault
abbrev pub is_loud_with_more : {S T : Type 0} → Slot S T → Bool
is_loud_with_more x = x.is_loud && has_more x

-- its goal can meet no fault
abbrev pub is_quiet : {S T : Type 0} → Slot S T → Bool
is_quiet x = not x.is_loud

-- it stands at an answer, and no alternative is left that may meet a fault
abbrev pub is_safe : {S T : Type 0} → Slot S T → Bool
is_safe x = has_answer x && not (is_loud_with_more x)

abbrev pub cost_at : {S : Type 0} → Stand S → ℕ
cost_at (Answered a) = a.cost
cost_at (Ended e c) = c
cost_at _ = 0

-- what it counts in a sum: an answer's cost; what one without an answer had spent when it ended
abbrev pub cost_of : {S T : Type 0} → Slot S T → ℕ
cost_of x = cost_at x.stand

-- ---- which call redoes it

abbrev pub hands_over : {S : Type 0} → Stand S → Bool
hands_over (Answered a) = is_some a.section && a.has_more
hands_over _ = false

-- it holds a section with a choice point
abbrev pub holds_more : {S T : Type 0} → Slot S T → Bool
holds_more x = hands_over x.stand

abbrev pub goes_on_local : {S : Type 0} → Stand S → Bool
goes_on_local (Answered a) = is_none a.section && a.has_more
goes_on_local _ = false

-- it was answered in its owner's own section, where a choice point is left
abbrev pub is_local_with_more : {S T : Type 0} → Slot S T → Bool
is_local_with_more x = goes_on_local x.stand

-- it stands at a stored answer, and one is left
abbrev pub is_replayed_with_more : {S T : Type 0} → Slot S T → Bool
is_replayed_with_more x = is_replayed x && has_more x
