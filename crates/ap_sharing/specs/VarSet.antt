-- A set of variables, seen as a number: x is in the set s exactly where bit x of s is 1. Sets with the same
-- elements are one number.
use Rattle.std.specs.Prelude.{ℕ, ◌^◌, Bool, not, nat_eq, bit_and, bit_or, bit_xor}
use Rattle.std.specs.Int.{bit_at}

unfoldable pub has : ℕ → ℕ → Bool
has s x = nat_eq (bit_at s x) 1

unfoldable pub empty : ℕ
empty = 0

-- the set of x alone
unfoldable pub just : ℕ → ℕ
just x = 2 ^ x

unfoldable pub union : ℕ → ℕ → ℕ
union s t = bit_or s t

-- what both have
unfoldable pub both : ℕ → ℕ → ℕ
both s t = bit_and s t

-- what s has and t has not
unfoldable pub without : ℕ → ℕ → ℕ
without s t = bit_xor s (bit_and s t)

-- whether they have an element in common
unfoldable pub meets : ℕ → ℕ → Bool
meets s t = not (nat_eq (bit_and s t) 0)

-- whether t has each element of s
unfoldable pub within : ℕ → ℕ → Bool
within s t = nat_eq (bit_and s t) s
