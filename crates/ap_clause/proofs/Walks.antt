-- Walks over the arguments of a term: the arguments before the last, and then the last.
use Rattle.std.proofs.Common.{◌≡◌, ◌&&◌, ap, ◌∙◌, sym}
use Rattle.std.proofs.Math.Bool.{and-true, and_assoc}
use Rattle.ap_term.specs.Tree.{Tree, Trees, none, more, push_tree}
use Rattle.ap_term.proofs.TermLists.{size_all-push, item_smaller, trees_of-drop_more}
use Rattle.ap_clause.specs.Limit.{is_narrow, are_narrow}

pub are_narrow-push : (ts : Trees) (t : Tree) → are_narrow (push_tree ts t) ≡ (are_narrow ts && is_narrow t)
are_narrow-push none t = and-true (is_narrow t)
are_narrow-push (more u ts) t = ap (λ b. is_narrow u && b) (are_narrow-push ts t) ∙ sym (and_assoc (is_narrow u) (are_narrow ts) (is_narrow t))

pub ruleset widths = (are_narrow-push, size_all-push, item_smaller, trees_of-drop_more)
