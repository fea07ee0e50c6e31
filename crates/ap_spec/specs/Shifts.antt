-- The variables moved up by n, where 64 bits hold the sum.
use Rattle.std.specs.Prelude.{ℕ, ◌+◌, ◌-◌, ◌^◌, min}
use Rattle.ap_term.specs.Tree.{Tree, var}

abbrev pub shift_within : ℕ → ℕ → Tree
shift_within n x = var (min (x + n) (2 ^ 64 - 1))
