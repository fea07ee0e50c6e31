-- Places whose terms are compared with those of others.
use Rattle.std.specs.Prelude.{◌≡◌, ℕ, ◌+◌, ◌*◌, List, [], ◌∷◌}
use Rattle.ap_term.specs.Tree.{Tree}
use Rattle.ap_cells.specs.Trees.{span}
use Rattle.ap_cells.specs.Tops.{topped}
use Rattle.ap_cells.specs.Walks.{Each, weight_all}
use Rattle.ap_cells.specs.declared.top.Top.{Top}
use Rattle.ap_cells.specs.declared.top.Top.TheVariants.{Node}
use Rattle.ap_cells.specs.declared.pairs.Pairs.{Pairs}
use Rattle.ap_checks.specs.declared.identity.Answer.{Answer}
use Rattle.ap_checks.specs.declared.identity.Answer.TheVariants.{Same, Apart, Arguments}

-- both sides stand for the same trees
abbrev pub AreSame : List Tree → Pairs → Type 0
AreSame ts r = span ts r.left r.count ≡ span ts r.right r.count

abbrev pub AllSame : List Tree → List Pairs → Type 0
AllSame ts rs = Each (AreSame ts) rs

-- what the outermost parts of two terms say of these: they are one tree, they aren't, or they are where the arguments are
abbrev pub Says : Top → Top → Answer → Type 0
Says t u Same = (ts : List Tree) → topped ts t ≡ topped ts u
Says t u Apart = (ts : List Tree) → topped ts t ≡ topped ts u → ⊥
Says t u (Arguments p q n) = (a : ℕ) × ((t ≡ Node a p n) × (u ≡ Node a q n))

-- more turns than the comparison takes
abbrev pub weight_pairs : List Tree → List Pairs → ℕ
weight_pairs ts [] = 0
weight_pairs ts (r ∷ rs) = 2 * weight_all (span ts r.left r.count) + 1 + weight_pairs ts rs
