-- The set of a tree's variables.
use Rattle.std.proofs.Common.{◌≡◌, ℕ, ◌≤◌, ◌||◌, List, length, drop, ap, ap₂, sym, ◌∙◌}
use Rattle.std.proofs.lemmas.List.{drop_all}
use Rattle.ap_term.specs.declared.terms.Term.{Term}
use Rattle.ap_term.specs.TermView.{trees_of}
use Rattle.ap_term.specs.Tree.{Tree, Trees, var, int, atom, node, none, more, push_tree}
use Rattle.ap_term.specs.Vars.{occurs, occurs_all}
use Rattle.ap_term.proofs.TermLists.{size_all-push, item_smaller, trees_of-drop_more}
use Rattle.ap_term.proofs.Walks.{numbered_all-push}
use Rattle.ap_sharing.specs.VarSet.{has, empty, union}
use Rattle.ap_sharing.proofs.Elements.{has-empty, has-union, has-just, union_comm, union_assoc, union-empty}
use Rattle.ap_absunify.specs.TermSets.{var_set, var_set_all}

mutual
  pub has-var_set : (t : Tree) (x : ℕ) → has (var_set t) x ≡ occurs x t
  has-var_set (var y) x = has-just y x
  has-var_set (int z) x = has-empty x
  has-var_set (atom a) x = has-empty x
  has-var_set (node a ts) x = has-var_set_all ts x

  pub has-var_set_all : (ts : Trees) (x : ℕ) → has (var_set_all ts) x ≡ occurs_all x ts
  has-var_set_all none x = has-empty x
  has-var_set_all (more t ts) x = has-union (var_set t) (var_set_all ts) x ∙ ap₂ (λ a b. a || b) (has-var_set t x) (has-var_set_all ts x)

pub var_set_all-push : (ts : Trees) (t : Tree) → var_set_all (push_tree ts t) ≡ union (var_set_all ts) (var_set t)
var_set_all-push none t = union_comm (var_set t) empty
var_set_all-push (more u ts) t = ap (union (var_set u)) (var_set_all-push ts t) ∙ sym (union_assoc (var_set u) (var_set_all ts) (var_set t))

-- no term is left
pub found_all : (ts : List Term) (i found whole : ℕ) → length ts ≤ i → union found (var_set_all (trees_of (drop i ts))) ≡ whole → found ≡ whole
found_all ts i found whole h e = sym (union-empty found) ∙ ap (λ rest. union found (var_set_all (trees_of rest))) (sym (drop_all i ts h)) ∙ e

pub ruleset walk = (var_set_all-push, union_assoc, union-empty, numbered_all-push, size_all-push, item_smaller, trees_of-drop_more)
