-- The place of a variable in the last arguments, and what a fitted tuple gives for it.
use Rattle.std.proofs.Common.{◌≡◌, ◌≤◌, ◌≢◌, ◌==◌, ℕ, zero, suc, ◌+◌, ◌-◌, min, Bool, true, false, if◌then◌else◌, List, [], ◌∷◌, length, drop, Option, Some, None, refl, ap, sym, ◌∙◌, arith}
use Rattle.ap_term.proofs.TreeLists.{count_trees-push}
use Rattle.ap_term.specs.declared.terms.Term.{Term}
use Rattle.ap_term.specs.Tree.{Tree, Trees, var, int, atom, node, none, more, push_tree, count_trees}
use Rattle.ap_term.specs.TermView.{tree_of, trees_of}
use Rattle.ap_term.specs.Substitution.{Subst, value}
use Rattle.ap_term.proofs.TermLists.{size_all-push, item_smaller, trees_of-drop_more}
use Rattle.ap_laws.specs.Graft.{fit, fit_all}
use Rattle.ap_core.specs.Fitting.{or_else, found, found_all}

or_else_assoc : (a b c : Option Tree) → or_else (or_else a b) c ≡ or_else a (or_else b c)
or_else_assoc None b c = refl
or_else_assoc (Some t) b c = refl

or_else_none : (a : Option Tree) → or_else a None ≡ a
or_else_none None = refl
or_else_none (Some t) = refl

pub found_all-push : (x : ℕ) (ps ts : Trees) (p t : Tree) → count_trees ps ≡ count_trees ts → found_all x (push_tree ps p) (push_tree ts t) ≡ or_else (found_all x ps ts) (found x p t)
found_all-push x none none p t h = or_else_none (found x p t)
found_all-push x none (more u ts) p t h = absurd (omega arith)
found_all-push x (more q ps) none p t h = absurd (omega arith)
found_all-push x (more q ps) (more u ts) p t h = ap (or_else (found x q u)) (found_all-push x ps ts p t (omega arith)) ∙ sym (or_else_assoc (found x q u) (found_all x ps ts) (found x p t))

pub found_all-none : (x : ℕ) (ps : Trees) → found_all x ps none ≡ None
found_all-none x none = refl
found_all-none x (more p ps) = refl

-- a value, or else another
abbrev pub default : Option Tree → Tree → Tree
default None t = t
default (Some u) t = u

default-or_else : (a b : Option Tree) (t : Tree) → default (or_else a b) t ≡ default a (default b t)
default-or_else None b t = refl
default-or_else (Some u) b t = refl

default-if : (b : Bool) (t u : Tree) → default (if b then Some t else None) u ≡ (if b then t else u)
default-if true t u = refl
default-if false t u = refl

mutual
  value-fit : (x : ℕ) (p t : Tree) (s : Subst) → value (fit p t s) x ≡ default (found x p t) (value s x)
  value-fit x (var y) t s = sym (default-if (y == x) t (value s x))
  value-fit x (node a ps) (node b ts) s = value-fit_all x ps ts s
  value-fit x (node a ps) (var y) s = refl
  value-fit x (node a ps) (int z) s = refl
  value-fit x (node a ps) (atom b) s = refl
  value-fit x (int z) t s = refl
  value-fit x (atom a) t s = refl

  value-fit_all : (x : ℕ) (ps ts : Trees) (s : Subst) → value (fit_all ps ts s) x ≡ default (found_all x ps ts) (value s x)
  value-fit_all x (more p ps) (more t ts) s =
      value-fit x p t (fit_all ps ts s) ∙ ap (default (found x p t)) (value-fit_all x ps ts s) ∙ sym (default-or_else (found x p t) (found_all x ps ts) (value s x))
  value-fit_all x none ts s = refl
  value-fit_all x (more p ps) none s = refl

pub value-fitted : (x : ℕ) (ps ts : Trees) → value (fit_all ps ts []) x ≡ default (found_all x ps ts) (var x)
value-fitted x ps ts = value-fit_all x ps ts []

pub ruleset found_rows = (found_all-push, found_all-none, count_trees-push, size_all-push, item_smaller, trees_of-drop_more)

pub ruleset fitted_rows = value-fitted

drop-nil : (i : ℕ) → drop {A = Term} i [] ≡ []
drop-nil zero = refl
drop-nil (suc i) = refl

pub found_all-ended : (x : ℕ) (ps ts : List Term) (i n : ℕ) → n ≤ i → n ≡ min (length ps) (length ts) → found_all x (trees_of (drop i ps)) (trees_of (drop i ts)) ≡ None
found_all-ended x [] [] i n h e = ap (λ qs. found_all x (trees_of qs) (trees_of (drop i []))) (drop-nil i)
found_all-ended x [] (t ∷ ts) i n h e = ap (λ qs. found_all x (trees_of qs) (trees_of (drop i (t ∷ ts)))) (drop-nil i)
found_all-ended x (p ∷ ps) [] i n h e = ap (λ qs. found_all x (trees_of (drop i (p ∷ ps))) (trees_of qs)) (drop-nil i) ∙ found_all-none x (trees_of (drop i (p ∷ ps)))
found_all-ended x (p ∷ ps) (t ∷ ts) zero n h e = absurd (omega arith)
found_all-ended x (p ∷ ps) (t ∷ ts) (suc i) n h e = found_all-ended x ps ts i (n - 1) (omega arith) (omega arith)

pub fitted_some : (x : ℕ) (ps ts : Trees) (u : Tree) → Some u ≡ found_all x ps ts → u ≡ value (fit_all ps ts []) x
fitted_some x ps ts u e = sym (value-fitted x ps ts ∙ ap (λ o. default o (var x)) (sym e))
