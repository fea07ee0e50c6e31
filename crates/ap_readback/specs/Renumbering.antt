-- Numbers from 1 to n under other numbers.
use Rattle.std.specs.Prelude.{◌≡◌, ℕ, true}
use Rattle.ap_term.specs.WellFormed.{in_range}

-- each gets one of them, and no two the same
pub record Renumbers (n : ℕ) (r : ℕ → ℕ) : Type 0 where
  pub within : (x : ℕ) → in_range n x ≡ true → in_range n (r x) ≡ true
  pub apart : (x y : ℕ) → in_range n x ≡ true → in_range n y ≡ true → r x ≡ r y → x ≡ y
