-- Costs, redos and verdicts in the words of slots in a row: `ls` stand left of a slot x, `rs` right of it.
use Rattle.std.specs.Prelude.{◌≡◌, ℕ, ◌+◌, ◌-◌, Bool, true, false, List, ◌∷◌, ◌++◌, length, sum_by, Option, Some, None}
use Rattle.std.specs.List.{list_any, list_all}
use Rattle.ap_frames.specs.declared.slots.Slot.{Slot}
use Rattle.ap_frames.specs.declared.frame.Round.TheVariants.{First, Draining, Later, Closed}
use Rattle.ap_frames.specs.declared.verdict.Verdict.TheVariants.{Wait, Joined, Broken, Drain}
use Rattle.ap_frames.specs.Slots.{has_answer, has_failed, has_more, is_loud_with_more, ending_of, cost_of}
use Rattle.ap_frames.specs.Verdicts.{left_edge, charge, next_redo, charged, are_harmless, by_ending, judged}

pub record EdgeLaw (S T : Type 0) : Type 0 where
  -- where each slot has an answer, the left edge is the sum of their costs
  pub answered : (xs : List (Slot S T)) → list_all has_answer xs ≡ true → left_edge xs ≡ sum_by cost_of xs
  -- x is the leftmost slot without an answer
  pub first_without : (ls rs : List (Slot S T)) (x : Slot S T) → list_all has_answer ls ≡ true → has_answer x ≡ false → left_edge (ls ++ x ∷ rs) ≡ sum_by cost_of ls + cost_of x
  -- and was drained when so much was charged: what it spent comes on top
  pub drained : (before : ℕ) (ls rs : List (Slot S T)) (x : Slot S T) → list_all has_answer ls ≡ true → has_answer x ≡ false → charge (Draining before) (ls ++ x ∷ rs) ≡ before + cost_of x

pub record RedoLaw (S T : Type 0) : Type 0 where
  -- x has more, and no slot right of it has
  pub rightmost_with_more : (ls rs : List (Slot S T)) (x : Slot S T) → has_more x ≡ true → list_any has_more rs ≡ false → next_redo (ls ++ x ∷ rs) ≡ Some (length ls + 1)
  pub none_with_more : (xs : List (Slot S T)) → list_any has_more xs ≡ false → next_redo xs ≡ None

pub record VerdictLaw (S T : Type 0) : Type 0 where
  -- first round: x is the leftmost slot that has failed, and what stands left of it is harmless
  pub breaks : (r : ℕ) (ls rs : List (Slot S T)) (x : Slot S T) → list_any has_failed ls ≡ false → has_failed x ≡ true → are_harmless ls ≡ true
      → judged r First (ls ++ x ∷ rs) ≡ charged r (left_edge (ls ++ x ∷ rs)) (Broken (left_edge (ls ++ x ∷ rs)))
  -- all left of it have answers, and y is the rightmost of these with an alternative that may meet a fault
  pub drains : (r : ℕ) (ls ms rs : List (Slot S T)) (y x : Slot S T) → list_all has_answer (ls ++ y ∷ ms) ≡ true → is_loud_with_more y ≡ true → list_any is_loud_with_more ms ≡ false → has_failed x ≡ true
      → judged r First ((ls ++ y ∷ ms) ++ x ∷ rs) ≡ charged r (left_edge ((ls ++ y ∷ ms) ++ x ∷ rs)) (Drain (length ls + 1) (r - left_edge ((ls ++ y ∷ ms) ++ x ∷ rs)))
  -- a later round breaks wherever a slot has failed
  pub breaks_later : (r j : ℕ) (xs : List (Slot S T)) → list_any has_failed xs ≡ true → judged r (Later j) xs ≡ charged r (left_edge xs) (Broken (left_edge xs))
  -- each slot has an answer
  pub joins : (r : ℕ) (xs : List (Slot S T)) → list_all has_answer xs ≡ true → judged r First xs ≡ charged r (sum_by cost_of xs) (Joined (sum_by cost_of xs))
  pub joins_later : (r j : ℕ) (xs : List (Slot S T)) → list_all has_answer xs ≡ true → judged r (Later j) xs ≡ charged r (sum_by cost_of xs) (Joined (sum_by cost_of xs))
  -- none has failed, and x is the leftmost without an answer: the verdict is by how it ended
  pub by_leftmost : (r : ℕ) (ls rs : List (Slot S T)) (x : Slot S T) → list_any has_failed (ls ++ x ∷ rs) ≡ false → list_all has_answer ls ≡ true → has_answer x ≡ false
      → judged r First (ls ++ x ∷ rs) ≡ by_ending r (sum_by cost_of ls + cost_of x) (ending_of x)
  pub closed : (r : ℕ) (xs : List (Slot S T)) → judged r Closed xs ≡ Wait
