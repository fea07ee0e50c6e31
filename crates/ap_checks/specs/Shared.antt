-- A comparison in which pairs that were met are assumed to be equal.
use Rattle.std.specs.Prelude.{◌≡◌, ℕ, suc, ◌+◌, ◌*◌, ◌<◌, List, [], ◌∷◌, ◌++◌, Option, Some}
use Rattle.ap_term.specs.Tree.{Tree}
use Rattle.ap_cells.specs.Trees.{tree_at, span}
use Rattle.ap_cells.specs.Walks.{weight_all}
use Rattle.ap_cells.specs.Assumed.{ArePairs, below, AreBelow, Look}
use Rattle.ap_cells.specs.declared.pairs.Pairs.{Pairs}
use Rattle.ap_marks.specs.Classes.{Links, Agrees}
use Rattle.ap_checks.specs.Pairs.{AllSame, weight_pairs}
use Rattle.ap_checks.specs.declared.identity.Outcome.{Outcome}
use Rattle.ap_checks.specs.declared.identity.Outcome.TheVariants.{Apart, Same, Arguments}
use Rattle.ap_checks.specs.declared.identity.Progress.{Progress}
use Rattle.ap_checks.specs.declared.identity.Progress.TheVariants.{Same as AllAlike, Apart as NotAll, Stopped}

-- the tree of a place
abbrev pub known : List Tree → ℕ → Option Tree
known ts i = Some (tree_at ts i)

-- a pair looked at: `qs` and `u` are the pairs left and those that are assumed, in the place of `rs` and `v`
pub record Compared (ts : List Tree) (rs qs : List Pairs) (v u : Links) (p q : ℕ) : Type 0 where
  pub sound : AllSame ts rs → Agrees (known ts) v → tree_at ts p ≡ tree_at ts q → AllSame ts qs × Agrees (known ts) u
  pub look : Look ts rs qs v u p q

abbrev pub Looked : List Tree → Links → Links → ℕ → ℕ → Outcome → Type 0
Looked ts v u p q Apart = tree_at ts p ≡ tree_at ts q → ⊥
Looked ts v u p q Same = (rs : List Pairs) → Compared ts rs rs v u p q
Looked ts v u p q (Arguments r) = (rs : List Pairs) → Compared ts rs (rs ++ r ∷ []) v u p q

-- the arguments take fewer turns than a term of weight w
abbrev pub AreLighter : List Tree → Outcome → ℕ → Type 0
AreLighter ts Apart w = Unit {0}
AreLighter ts Same w = Unit {0}
AreLighter ts (Arguments r) w = 2 * weight_all (span ts r.left r.count) + 1 < 2 * w

-- the arguments lie among the first n places
abbrev pub AreInside : ℕ → Outcome → Type 0
AreInside n Apart = Unit {0}
AreInside n Same = Unit {0}
AreInside n (Arguments r) = ArePairs n r

-- on the way from the pairs `start`: what is left and what is assumed follow from these, and lead to them step by step
pub record Going (ts : List Tree) (start rs : List Pairs) (v : Links) : Type 0 where
  pub sound : AllSame ts start → AllSame ts rs × Agrees (known ts) v
  pub begun : (w : ℕ) → AreBelow ts w rs → Agrees (below ts w) v → AreBelow ts w start
  pub closes : (w : ℕ) → AreBelow ts w rs → Agrees (below ts w) v → Agrees (below ts (suc w)) v

-- what the end of a part of the comparison says, with these pairs left and these assumed
abbrev pub Tells : List Tree → List Pairs → List Pairs → Links → Progress → Type 0
Tells ts start rs v AllAlike = AllSame ts start
Tells ts start rs v NotAll = AllSame ts start → ⊥
Tells ts start rs v (Stopped r) = Going ts start (rs ++ r ∷ []) v

-- where it stopped, fewer than w turns are left
abbrev pub IsLighter : List Tree → List Pairs → Progress → ℕ → Type 0
IsLighter ts rs AllAlike w = Unit {0}
IsLighter ts rs NotAll w = Unit {0}
IsLighter ts rs (Stopped r) w = weight_pairs ts (rs ++ r ∷ []) < w

-- it stopped at pairs of the first n places
abbrev pub IsStop : ℕ → Progress → Type 0
IsStop n AllAlike = Unit {0}
IsStop n NotAll = Unit {0}
IsStop n (Stopped r) = ArePairs n r
