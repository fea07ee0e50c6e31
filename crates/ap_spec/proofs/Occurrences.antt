-- Where a variable stands.
use Rattle.std.proofs.Common.{◌≡◌, ℕ, ◌||◌, ap, sym, ◌∙◌}
use Rattle.std.proofs.Math.Bool.{or-false, or_assoc}
use Rattle.ap_term.specs.Tree.{Tree, Trees, none, more, push_tree}
use Rattle.ap_term.specs.Vars.{occurs, occurs_all}
use Rattle.ap_term.proofs.TermLists.{size_all-push, item_smaller, trees_of-drop_more}

pub occurs_all-push : (x : ℕ) (ts : Trees) (t : Tree) → occurs_all x (push_tree ts t) ≡ (occurs_all x ts || occurs x t)
occurs_all-push x none t = or-false (occurs x t)
occurs_all-push x (more u ts) t = ap (λ b. occurs x u || b) (occurs_all-push x ts t) ∙ sym (or_assoc (occurs x u) (occurs_all x ts) (occurs x t))

pub ruleset rules_of_occurs = (occurs_all-push, size_all-push, item_smaller, trees_of-drop_more)
