-- Verdicts, and the slot that is redone next.
use Rattle.std.specs.Prelude.{ℕ, suc, ◌+◌, ◌-◌, Bool, true, false, ◌&&◌, ◌||◌, not, if◌then◌else◌, List, [], ◌∷◌, nat_lt, position, take, Option, Some, None}
use Rattle.std.specs.List.{list_any, list_all}
use Rattle.ap_frames.specs.declared.slots.Slot.{Slot}
use Rattle.ap_frames.specs.declared.slots.Ending.{Ending}
use Rattle.ap_frames.specs.declared.slots.Ending.TheVariants as ended
use Rattle.ap_frames.specs.declared.frame.Round.{Round}
use Rattle.ap_frames.specs.declared.frame.Round.TheVariants.{First, Draining, Later, Closed}
use Rattle.ap_frames.specs.declared.verdict.Verdict.{Verdict}
use Rattle.ap_frames.specs.declared.verdict.Verdict.TheVariants.{Wait, Joined, Broken, Drain, Raised, Spent}
use Rattle.ap_frames.specs.Slots.{has_answer, has_failed, has_more, is_loud_with_more, is_quiet, is_safe, ending_of, cost_of}
use Rattle.ap_frames.specs.Rows.{Row}

-- ---- what slots in a row have cost

-- the cost of the longest prefix of slots with an answer, and what the next one had spent when it ended
abbrev pub left_edge : {S T : Type 0} → List (Slot S T) → ℕ
left_edge [] = 0
left_edge (x ∷ xs) = if has_answer x then cost_of x + left_edge xs else cost_of x

-- what the leftmost slot without an answer had spent when it ended
abbrev pub ended_cost : {S T : Type 0} → List (Slot S T) → ℕ
ended_cost [] = 0
ended_cost (x ∷ xs) = if has_answer x then ended_cost xs else cost_of x

-- how that one ended
abbrev pub leftmost_ending : {S T : Type 0} → List (Slot S T) → Option Ending
leftmost_ending [] = None
leftmost_ending (x ∷ xs) = if has_answer x then leftmost_ending xs else ending_of x

-- what is charged: the left edge; where slots were drained, what was charged before the newest of them ran on, and what that one spent
abbrev pub charge : {S T : Type 0} → Round → List (Slot S T) → ℕ
charge (Draining before) xs = before + ended_cost xs
charge First xs = left_edge xs
charge (Later j) xs = left_edge xs
charge Closed xs = left_edge xs

-- ---- the rightmost of a kind

-- its place among one slot and those behind it
abbrev pub place_behind : Option ℕ → Bool → Option ℕ
place_behind (Some i) b = Some (i + 1)
place_behind None true = Some 1
place_behind None false = None

abbrev pub rightmost : {A : Type 0} → (A → Bool) → List A → Option ℕ
rightmost f [] = None
rightmost f (x ∷ xs) = place_behind (rightmost f xs) (f x)

-- the rightmost slot that has more
abbrev pub next_redo : {S T : Type 0} → List (Slot S T) → Option ℕ
next_redo xs = rightmost has_more xs

-- ---- verdicts

-- a charge above the rest spends the budget
abbrev pub charged : ℕ → ℕ → Verdict → Verdict
charged r c v = if nat_lt r c then Spent else v

abbrev pub by_ending : ℕ → ℕ → Option Ending → Verdict
by_ending r c (Some (ended.Raised e)) = charged r c (Raised c e)
by_ending r c (Some ended.Spent) = Spent
by_ending r c _ = Wait

-- by the leftmost slot without an answer, and where there is none each slot has one
abbrev pub unless_failed : {S T : Type 0} → ℕ → ℕ → List (Slot S T) → Verdict
unless_failed r c xs = if list_all has_answer xs then charged r c (Joined c) else by_ending r c (leftmost_ending xs)

-- nothing that stands before a failure can meet a fault any more: each slot is quiet, or has an answer and, where it is loud, no alternative
abbrev pub are_harmless : {S T : Type 0} → List (Slot S T) → Bool
are_harmless ls = list_all is_quiet ls || list_all is_safe ls

abbrev pub drains : ℕ → ℕ → Option ℕ → Verdict → Verdict
drains r c (Some i) v = charged r c (Drain i (r - c))
drains r c None v = v

-- in the first round, where the slots left of the leftmost failed one are these
abbrev pub after_failure : {S T : Type 0} → ℕ → ℕ → List (Slot S T) → List (Slot S T) → Verdict
after_failure r c ls xs =
    if are_harmless ls then charged r c (Broken c)
    else (if list_all has_answer ls then drains r c (rightmost is_loud_with_more ls) (unless_failed r c xs) else unless_failed r c xs)

abbrev pub in_first : {S T : Type 0} → ℕ → ℕ → List (Slot S T) → Option ℕ → Verdict
in_first r c xs None = unless_failed r c xs
in_first r c xs (Some j) = after_failure r c (take j xs) xs

abbrev pub in_later : {S T : Type 0} → ℕ → ℕ → List (Slot S T) → Verdict
in_later r c xs = if list_any has_failed xs then charged r c (Broken c) else unless_failed r c xs

-- of a round that was begun with the rest r; a closed one has none
abbrev pub judged : {S T : Type 0} → ℕ → Round → List (Slot S T) → Verdict
judged r First xs = in_first r (charge First xs) xs (position has_failed xs)
judged r (Draining before) xs = in_first r (charge (Draining before) xs) xs (position has_failed xs)
judged r (Later j) xs = in_later r (charge (Later j) xs) xs
judged r Closed xs = Wait

abbrev pub verdict : {S T : Type 0} → Row S T → Verdict
verdict f = judged f.rest f.round f.slots
