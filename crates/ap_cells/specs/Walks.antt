-- Places that are still to be walked over, and the variables that stand there.
use Rattle.std.specs.Prelude.{◌≡◌, ◌⊎◌, ℕ, ◌+◌, ◌*◌, ◌<◌, ◌≤◌, true, false, nat_eq, ◌||◌, List, [], ◌∷◌, Option, Some, None}
use Rattle.ap_term.specs.Tree.{Tree, Trees, var, int, atom, node, none, more}
use Rattle.std.specs.List.{list_any}
use Rattle.ap_term.specs.Vars.{occurs}
use Rattle.ap_cells.specs.Trees.{tree_at, span}
use Rattle.ap_cells.specs.declared.walk.Range.{Range}
use Rattle.ap_cells.specs.declared.walk.Searched.{Searched}
use Rattle.ap_cells.specs.declared.walk.Searched.TheVariants.{Found, Absent, Stopped}

-- each element has the property
abbrev pub Each : {X : Type 0} → (X → Type 0) → List X → Type 0
Each P [] = Unit {0}
Each P (x ∷ xs) = P x × Each P xs

-- the places lie among the first n
abbrev pub IsRange : ℕ → Range → Type 0
IsRange n r = r.first + r.count ≤ n

abbrev pub AreRanges : ℕ → List Range → Type 0
AreRanges n rs = Each (IsRange n) rs

-- what is left of a walk, and the places that are marked
pub record Walked : Type 0 where
  pub ranges : List Range
  pub marks : List ℕ

abbrev mutual
  -- the nodes and leaves of a tree
  pub weight : Tree → ℕ
  weight (var x) = 1
  weight (int z) = 1
  weight (atom a) = 1
  weight (node a ts) = weight_all ts + 1

  pub weight_all : Trees → ℕ
  weight_all none = 0
  weight_all (more t ts) = weight t + weight_all ts

-- more turns than a walk over the places takes
abbrev pub weight_in : List Tree → List Range → ℕ
weight_in ts [] = 0
weight_in ts (r ∷ rs) = 2 * weight_all (span ts r.first r.count) + 1 + weight_in ts rs

-- the place is one of those that are still to be walked over
abbrev pub InRange : ℕ → Range → Type 0
InRange p r = (r.first ≤ p) × (p < r.first + r.count)

abbrev pub InRanges : ℕ → List Range → Type 0
InRanges p [] = ⊥
InRanges p (r ∷ rs) = InRange p r ⊎ InRanges p rs

-- the place is marked or still to be walked over
abbrev pub IsHere : List ℕ → List Range → ℕ → Type 0
IsHere marks rs p = (list_any (nat_eq p) marks ≡ true) ⊎ InRanges p rs

-- x stands in the term of such a place, which is lighter than w
pub record Ahead (x : ℕ) (ts : List Tree) (marks : List ℕ) (rs : List Range) (w : ℕ) : Type 0 where
  pub at : ℕ
  pub stands : occurs x (tree_at ts at) ≡ true
  pub lighter : weight (tree_at ts at) < w
  pub here : IsHere marks rs at

-- in a walk from a root in search of x: what is still to be walked over belongs to the root; where x stands in the root, or in
-- the term of a marked place, it stands in a lighter one that is marked or still to be walked over
pub record Search (x : ℕ) (ts : List Tree) (root : ℕ) (marks : List ℕ) (rs : List Range) : Type 0 where
  pub belongs : (p : ℕ) → InRanges p rs → occurs x (tree_at ts p) ≡ true → occurs x (tree_at ts root) ≡ true
  pub begun : occurs x (tree_at ts root) ≡ true → Ahead x ts marks rs (weight (tree_at ts root) + 1)
  pub closes : (p : ℕ) → list_any (nat_eq p) marks ≡ true → occurs x (tree_at ts p) ≡ true → Ahead x ts marks rs (weight (tree_at ts p))

-- what the end of a part of the search says, with these places marked and still to be walked over
abbrev pub Tells : ℕ → List Tree → ℕ → List ℕ → List Range → Searched → Type 0
Tells x ts root marks rs Found = occurs x (tree_at ts root) ≡ true
Tells x ts root marks rs Absent = occurs x (tree_at ts root) ≡ false
Tells x ts root marks rs (Stopped r) = Search x ts root marks (r ∷ rs)

-- what the next variable of the walk says, or that there is none
abbrev pub Meets : ℕ → List Tree → ℕ → List ℕ → List Range → Option ℕ → Type 0
Meets x ts root marks rs None = occurs x (tree_at ts root) ≡ false
Meets x ts root marks rs (Some v) = (v ≡ x → occurs x (tree_at ts root) ≡ true) × ((v ≡ x → ⊥) → Search x ts root marks rs)

-- where it stopped, fewer than w turns are left
abbrev pub IsLighter : List Tree → Searched → List Range → ℕ → Type 0
IsLighter ts Found rs w = Unit {0}
IsLighter ts Absent rs w = Unit {0}
IsLighter ts (Stopped r) rs w = 2 * weight_all (span ts r.first r.count) + weight_in ts rs < w

-- it stopped at places among the first n
abbrev pub IsStop : ℕ → Searched → Type 0
IsStop n Found = Unit {0}
IsStop n Absent = Unit {0}
IsStop n (Stopped r) = IsRange n r

-- of a walk that marks the variables that it meets, besides the old marks: x is marked where it was before or stands in the
-- root, or the walk is still in search of it
pub record Gathers (x : ℕ) (ts : List Tree) (root : ℕ) (old marks : List ℕ) (w : Walked) : Type 0 where
  pub kept : list_any (nat_eq x) old ≡ true → list_any (nat_eq x) marks ≡ true
  pub sound : list_any (nat_eq x) marks ≡ true → (list_any (nat_eq x) old || occurs x (tree_at ts root)) ≡ true
  pub left : list_any (nat_eq x) marks ≡ false → Search x ts root w.marks w.ranges
