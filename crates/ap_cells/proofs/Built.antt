-- Terms that are being built.
use Rattle.std.proofs.Common.{◌≡◌, ◌+◌, ◌-◌, ◌*◌, ◌<◌, List, [], ◌∷◌, ◌++◌, refl, sym, ap, ◌∙◌, arith}
use Rattle.ap_term.specs.Tree.{Tree, Trees, node, none, more, push_tree, append_trees}
use Rattle.ap_cells.specs.Trees.{tree_at, span}
use Rattle.ap_cells.specs.declared.terms.Frame.{Frame}
use Rattle.ap_cells.specs.Walks.{weight_all}
use Rattle.ap_cells.specs.Built.{framed, with_argument, closed, weight_frames}
use Rattle.ap_cells.proofs.Walks.{span-first}
use Rattle.ap_term.proofs.TreeLists.{append_trees-none}

pub closed-push : (ts : List Tree) (fs : List Frame) (f : Frame) (t : Tree) → closed ts (fs ++ f ∷ []) t ≡ closed ts fs (with_argument ts f t)
closed-push ts [] f t = refl
closed-push ts (g ∷ fs) f t = ap (with_argument ts g) (closed-push ts fs f t)

pub weight_frames-push : (ts : List Tree) (fs : List Frame) (f : Frame) → weight_frames ts (fs ++ f ∷ []) ≡ weight_frames ts fs + (2 * weight_all (span ts f.next f.left) + 1)
weight_frames-push ts [] f = omega arith
weight_frames-push ts (g ∷ fs) f = omega (arith, weight_frames-push ts fs f)

pub join-more : (us : Trees) (t : Tree) (vs : Trees) → append_trees us (more t vs) ≡ append_trees (push_tree us t) vs
join-more none t vs = refl
join-more (more u us) t vs = ap (more u) (join-more us t vs)

-- a frame whose arguments are all there
pub framed-whole : (ts : List Tree) (f : Frame) → f.left ≡ 0 → node f.name f.args ≡ framed ts f
framed-whole ts f z = ap (node f.name) (sym (append_trees-none f.args)) ∙ ap (λ n. node f.name (append_trees f.args (span ts f.next n))) (sym z)

-- the next argument comes from the next place
pub framed-next : (ts : List Tree) (f : Frame) → 0 < f.left
    → node f.name (append_trees (push_tree f.args (tree_at ts f.next)) (span ts (f.next + 1) (f.left - 1))) ≡ framed ts f
framed-next ts f h =
    ap (node f.name) (sym (join-more f.args (tree_at ts f.next) (span ts (f.next + 1) (f.left - 1)))) ∙ ap (λ us. node f.name (append_trees f.args us)) (sym (span-first ts f.next f.left h))
