-- That the places of a tuple are inside of a store is a proposition.
use Rattle.std.proofs.Common.{ℕ, ◌<◌, List, [], ◌∷◌, refl, ap₂}
use Rattle.std.proofs.Math.Bridge.{le_prop}
use Rattle.ap_cells.specs.Walks.{Each}

pub inside-prop : (n : ℕ) (rs : List ℕ) → IsProp (Each (λ r. r < n) rs)
inside-prop n [] = λ a b. refl
inside-prop n (r ∷ rs) = λ a b. ap₂ (λ x y. (x, y)) (le_prop a.0 b.0) (inside-prop n rs a.1 b.1)
