-- Lists of trees.
use Rattle.std.proofs.Common.{◌≡◌, ℕ, zero, suc, ◌+◌, List, [], ◌∷◌, length, refl, ap, ◌∙◌, arith}
use Rattle.std.specs.Prelude.{pos}
use Rattle.ap_term.specs.Tree.{Tree, Trees, var, int, atom, node, none, more, count_trees, push_tree, append_trees}
use Rattle.ap_term.specs.Tuples.{arguments, applied, tuple_under}
use Rattle.ap_term.specs.Vars.{Local, LocalAll}
use Rattle.ap_term.specs.Substitution.{instance, instance_all}
use Rattle.ap_term.specs.Search.{variables}

-- ---- how many they are

pub count_trees-push : (ts : Trees) (t : Tree) → count_trees (push_tree ts t) ≡ count_trees ts + 1
count_trees-push none t = refl
count_trees-push (more u ts) t = ap (λ n. n + 1) (count_trees-push ts t)

pub count_trees-instance_all : (f : ℕ → Tree) (ts : Trees) → count_trees (instance_all f ts) ≡ count_trees ts
count_trees-instance_all f none = refl
count_trees-instance_all f (more t ts) = ap (λ n. n + 1) (count_trees-instance_all f ts)

pub count_trees-variables : (n : ℕ) → count_trees (variables n) ≡ n
count_trees-variables zero = refl
count_trees-variables (suc n) = count_trees-push (variables n) (var (suc n)) ∙ omega (arith, count_trees-variables n)

pub count-under : (k : ℕ → Tree) (rs : List ℕ) → count_trees (tuple_under k rs) ≡ length rs
count-under k [] = refl
count-under k (r ∷ rs) = let e : count_trees (tuple_under k rs) ≡ length rs = count-under k rs in omega arith

-- ---- their first, and the others

pub first-same : {t u : Tree} {ts us : Trees} → more t ts ≡ more u us → t ≡ u
first-same h = cc

pub rest-same : {t u : Tree} {ts us : Trees} → more t ts ≡ more u us → ts ≡ us
rest-same h = cc

-- ---- one after the other

pub instance_all-append_trees : (f : ℕ → Tree) (ts us : Trees) → instance_all f (append_trees ts us) ≡ append_trees (instance_all f ts) (instance_all f us)
instance_all-append_trees f none us = refl
instance_all-append_trees f (more t ts) us = ap (more (instance f t)) (instance_all-append_trees f ts us)

pub append_trees-none : (ts : Trees) → append_trees ts none ≡ ts
append_trees-none none = refl
append_trees-none (more t ts) = ap (more t) (append_trees-none ts)

pub append_trees-assoc : (ts us vs : Trees) → append_trees (append_trees ts us) vs ≡ append_trees ts (append_trees us vs)
append_trees-assoc none us vs = refl
append_trees-assoc (more t ts) us vs = ap (more t) (append_trees-assoc ts us vs)

-- ---- a name on them

pub instance-applied : (f : ℕ → Tree) (p : ℕ) (ts : Trees) → instance f (applied p ts) ≡ applied p (instance_all f ts)
instance-applied f p none = refl
instance-applied f p (more t ts) = refl

pub arguments-applied : (p : ℕ) (ts : Trees) → arguments (applied p ts) ≡ ts
arguments-applied p none = refl
arguments-applied p (more t ts) = refl

pub applied-push : (a : ℕ) (ts : Trees) (t : Tree) → applied a (push_tree ts t) ≡ node a (push_tree ts t)
applied-push a none t = refl
applied-push a (more u ts) t = refl

pub LocalAll-arguments : (P : ℕ → Type 0) (g : Tree) → Local P g → LocalAll P (arguments g)
LocalAll-arguments P (var x) h = (h, tt)
LocalAll-arguments P (int z) h = tt
LocalAll-arguments P (atom a) h = tt
LocalAll-arguments P (node a ts) h = h

-- ---- one tree

pub same_integer : (m n : ℕ) → int (pos m) ≡ int (pos n) → m ≡ n
same_integer m n e = cc

-- the number of a variable; 0 for another tree
abbrev pub number_of : Tree → ℕ
number_of (var x) = x
number_of (int z) = 0
number_of (atom a) = 0
number_of (node a ts) = 0

pub numbered_var : (f : ℕ → Tree) (t : Tree) (y : ℕ) → instance f t ≡ var y → t ≡ var (number_of t)
numbered_var f (var x) y e = refl
numbered_var f (int z) y e = cc
numbered_var f (atom a) y e = cc
numbered_var f (node a ts) y e = cc
