-- Lists that hold the places of a tuple.
use Rattle.std.proofs.Common.{◌≡◌, ℕ, suc, ◌+◌, ◌<◌, ◌≤◌, List, [], ◌∷◌, length, ◌∙◌, arith}
use Rattle.std.specs.List.{AllByRecursion}
use Rattle.ap_steps.specs.Moves.{held}

pub places-inside : (first n : ℕ) (ps : List ℕ) → first + length ps ≤ n → ((k : ℕ) → k < length ps → held ps k ≡ first + k) → AllByRecursion (λ r. r < n) ps
places-inside first n [] l each = tt
places-inside first n (p ∷ ps) l each = (
  let e : p ≡ first + 0 = each 0 (omega arith) in omega arith,
  places-inside (first + 1) n ps (omega arith) (λ k m. each (suc k) (omega arith) ∙ (let r : first + suc k ≡ (first + 1) + k = omega arith in r)),
)
