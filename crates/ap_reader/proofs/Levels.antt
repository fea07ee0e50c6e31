-- What the levels of priority say: an operator that fits behind another one isn't one that takes it.
use Rattle.std.proofs.Common.{◌≡◌, ℕ, ◌<◌, ◌≤◌, false, codes, arith, refl}
use Rattle.std.proofs.lemmas.Bool.Decides.{nat_tests}
use Rattle.ap_reader.specs.Operator.{priority_of, left_max, right_max}

pub comma_is : priority_of false (codes ",") ≡ 1000
unfolding priority_of
comma_is = refl

pub right_max-le : (p : ℕ) → right_max p ≤ p
unfolding right_max
right_max-le p = grind (arith, nat_tests)

pub left_max-le : (p : ℕ) → left_max p ≤ p
unfolding left_max
left_max-le p = grind (arith, nat_tests)

pub apart : (p q : ℕ) → 0 < q → q ≤ right_max p → left_max q < p
unfolding left_max right_max
apart p q h k = grind (arith, nat_tests)
