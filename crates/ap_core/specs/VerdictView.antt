-- What the values of the conditions' code stand for.
use Rattle.std.specs.Prelude.{◌≡◌, ℕ, ◌+◌, ◌<◌, Bool, true, false, Option, Some, None}
use Rattle.ap_term.specs.Tree.{Tree}
use Rattle.ap_core.specs.declared.conditions.Left.{Left}
use Rattle.ap_core.specs.declared.conditions.Left.TheVariants.{Quiet, Settled, Answered}
use Rattle.ap_core.specs.declared.conditions.Verdict.{Verdict}
use Rattle.ap_core.specs.declared.conditions.Verdict.TheVariants.{Wait, Joined, Broken, Drain, Raised, Spent}
use Rattle.ap_core.specs.Tasks.{Slots, slot, Progress}
use Rattle.ap_core.specs.TaskView.{Place}
use Rattle.ap_core.specs.Conditions as conditions
use Rattle.ap_core.specs.Conditions.{is_quiet, is_settled, answered_left, left_edge}

abbrev pub verdict_of : Verdict → conditions.Verdict
verdict_of Wait = conditions.wait
verdict_of (Joined c) = conditions.joins c
verdict_of (Broken c) = conditions.breaks c
verdict_of (Drain i x) = conditions.drains i x
verdict_of (Raised c e) = conditions.raises c e
verdict_of Spent = conditions.spends

abbrev pub left_test : Left → (Tree → Bool) → Tree → Progress → Bool
left_test Quiet = is_quiet
left_test Settled = is_settled
left_test Answered = λ loud. answered_left

-- what a slot adds to the left edge, where those left of it have cost `before`: so much, and the slots behind it add, too;
-- or so much alone; or more than there is room for
abbrev pub AddsTo : ℕ → ℕ → Place → Slots → Option ℕ → Bool → Type 0
AddsTo rest before z w (Some c) true = left_edge rest before (slot z.0 z.1 z.2 w) ≡ left_edge rest (before + c) w
AddsTo rest before z w (Some c) false = left_edge rest before (slot z.0 z.1 z.2 w) ≡ before + c
AddsTo rest before z w None b = rest < left_edge rest before (slot z.0 z.1 z.2 w)

abbrev pub PrefixCost : ℕ → ℕ → Place → Option ℕ × Bool → Type 0
PrefixCost room rest z r = (before : ℕ) (w : Slots) → before + room ≡ rest → AddsTo rest before z w r.0 r.1
