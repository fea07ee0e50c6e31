-- Tuples under maps that agree.
use Rattle.std.proofs.Common.{◌≡◌, ℕ, ◌<◌, List, [], ◌∷◌, refl, ap₂}
use Rattle.std.specs.List.{AllByRecursion}
use Rattle.ap_term.specs.Tree.{Tree, more}
use Rattle.ap_term.specs.Tuples.{tuple_under}
use Rattle.ap_match.specs.Fits.{Agree}

pub tuple_under-agree : (n : ℕ) (k l : ℕ → Tree) → Agree n k l → (rs : List ℕ) → AllByRecursion (λ r. r < n) rs → tuple_under k rs ≡ tuple_under l rs
tuple_under-agree n k l a [] h = refl
tuple_under-agree n k l a (r ∷ rs) h = ap₂ more (a r h.0) (tuple_under-agree n k l a rs h.1)
