-- A tuple of places, in two spellings, and how many terms it has.
use Rattle.std.proofs.Common.{◌≡◌, ℕ, List, [], ◌∷◌, refl, ap, sym, ◌∙◌}
use Rattle.ap_term.specs.Tuples.{tuple_under}
use Rattle.ap_term.specs.Tree.{Tree, Trees, more, count_trees}
use Rattle.ap_term.specs.UpToNames.{SameUpToNames}
use Rattle.ap_term.proofs.TreeLists.{count_trees-instance_all}
use Rattle.ap_cells.specs.Trees.{tree_at}
use Rattle.ap_copy.specs.Copies.{tuple_at}

pub tuple_at-under : (ts : List Tree) (rs : List ℕ) → tuple_at ts rs ≡ tuple_under (tree_at ts) rs
tuple_at-under ts [] = refl
tuple_at-under ts (r ∷ rs) = ap (more (tree_at ts r)) (tuple_at-under ts rs)

-- tuples that are the same up to names are of as many terms
pub count-same : (ts us : Trees) → SameUpToNames ts us → count_trees ts ≡ count_trees us
count-same ts us e = sym (count_trees-instance_all _ ts) ∙ ap count_trees e ∙ count_trees-instance_all _ us
