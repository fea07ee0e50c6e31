-- Pairs of places whose terms are to be equal, and links between places whose terms are assumed to be equal.
use Rattle.std.specs.Prelude.{◌≡◌, ℕ, suc, ◌+◌, ◌<◌, ◌≤◌, List, Option, Some, None, nat_lt, if◌then◌else◌}
use Rattle.ap_term.specs.Tree.{Tree}
use Rattle.ap_marks.specs.Classes.{Links, Agrees}
use Rattle.ap_cells.specs.Trees.{tree_at}
use Rattle.ap_cells.specs.Walks.{Each, weight}
use Rattle.ap_cells.specs.declared.pairs.Pairs.{Pairs}

-- the places lie among the first n
abbrev pub ArePairs : ℕ → Pairs → Type 0
ArePairs n r = (r.left + r.count ≤ n) × (r.right + r.count ≤ n)

-- the tree of a place, where it is lighter than w
abbrev pub below : List Tree → ℕ → ℕ → Option Tree
below ts w i = if nat_lt (weight (tree_at ts i)) w then Some (tree_at ts i) else None

-- of each pair one tree is that of the other, where either is lighter than w
abbrev pub IsBelow : List Tree → ℕ → Pairs → Type 0
IsBelow ts w r = (k : ℕ) → k < r.count → below ts w (r.left + k) ≡ below ts w (r.right + k)

abbrev pub AreBelow : List Tree → ℕ → List Pairs → Type 0
AreBelow ts w rs = Each (IsBelow ts w) rs

-- a pair looked at, with the pairs qs and the links u in the place of rs and v: where those are equal below w, so are these
-- and the pair; and what is newly linked is equal below one more
pub record Look (ts : List Tree) (rs qs : List Pairs) (v u : Links) (p q : ℕ) : Type 0 where
  pub pairs : (w : ℕ) → AreBelow ts w qs → Agrees (below ts w) u → AreBelow ts w rs
  pub pair : (w : ℕ) → AreBelow ts w qs → Agrees (below ts w) u → below ts w p ≡ below ts w q
  pub older : (w : ℕ) → Agrees (below ts w) u → Agrees (below ts w) v
  pub closes : (w : ℕ) → AreBelow ts w qs → Agrees (below ts (suc w)) v → Agrees (below ts (suc w)) u
