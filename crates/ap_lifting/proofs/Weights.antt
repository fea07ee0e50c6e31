-- How many operators and goals a body has. Each call of the code that lifts is of fewer, or of the same by a function
-- that comes later in the order add_operand, raise, fill_place, add_parts.
use Rattle.std.proofs.Common.{ℕ, ◌+◌}
use Rattle.ap_lifting.specs.Body.{Body, goal, conjunction, disjunction, parallel, conditional}

abbrev pub weight : Body → ℕ
weight (goal t) = 1
weight (conjunction a b) = weight a + weight b + 1
weight (disjunction a b) = weight a + weight b + 1
weight (parallel a b) = weight a + weight b + 1
weight (conditional cs b) = weight b + 1
