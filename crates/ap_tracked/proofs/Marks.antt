-- Marked goals.
use Rattle.std.proofs.Common.{◌≡◌, ℕ, List, [], ◌∷◌, ◌++◌, map, refl, ap, ap₂, sym, ◌∙◌, subst}
use Rattle.ap_term.specs.declared.clauses.Check.{Check}
use Rattle.ap_term.specs.declared.clauses.Check.TheVariants.{Ground, Indep}
use Rattle.ap_term.specs.Tree.{Tree, Trees, none, more, count_trees, append_trees}
use Rattle.ap_term.specs.Substitution.{instance, instance_all}
use Rattle.ap_term.specs.Goals as goals
use Rattle.ap_term.proofs.Copies.{instance_twice, instance_all_twice}
use Rattle.ap_term.proofs.TreeLists.{append_trees-assoc, instance_all-append_trees}
use Rattle.ap_tracked.specs.Tracked.{Goal, call, fork, moved, placed, calls, opened}
use Rattle.ap_tracked.specs.Marks.{ground_mark, apart_mark, group_mark, check_marks, marked, Unmarked, past_ground, past_apart, past_group}
use Rattle.ap_tracked.specs.Laws.{MarksLaw}

checks-append : (own : ℕ → Tree) (cs : List Check) (a b : Trees) → append_trees (check_marks own cs a) b ≡ check_marks own cs (append_trees a b)
checks-append own [] a b = refl
checks-append own (Ground x ∷ cs) a b = ap (λ ts. more ground_mark (more (own x) ts)) (checks-append own cs a b)
checks-append own (Indep x y ∷ cs) a b = ap (λ ts. more apart_mark (more (own x) (more (own y) ts))) (checks-append own cs a b)

checks-instance : (u own : ℕ → Tree) (cs : List Check) (a : Trees) → instance_all u (check_marks own cs a) ≡ check_marks (λ x. instance u (own x)) cs (instance_all u a)
checks-instance u own [] a = refl
checks-instance u own (Ground x ∷ cs) a = ap (λ ts. more ground_mark (more (instance u (own x)) ts)) (checks-instance u own cs a)
checks-instance u own (Indep x y ∷ cs) a = ap (λ ts. more apart_mark (more (instance u (own x)) (more (instance u (own y)) ts))) (checks-instance u own cs a)

-- a group's marks and goals in front of others
abbrev group_of : (ℕ → Tree) → List Check → Trees → Trees → Trees
group_of own cs ts us = check_marks own cs (more (group_mark (count_trees ts)) (append_trees (instance_all own ts) us))

group-append : (own : ℕ → Tree) (cs : List Check) (ts us vs : Trees) → append_trees (group_of own cs ts us) vs ≡ group_of own cs ts (append_trees us vs)
group-append own cs ts us vs =
    checks-append own cs (more (group_mark (count_trees ts)) (append_trees (instance_all own ts) us)) vs
    ∙ ap (λ a. check_marks own cs (more (group_mark (count_trees ts)) a)) (append_trees-assoc (instance_all own ts) us vs)

group-instance : (u own : ℕ → Tree) (cs : List Check) (ts us : Trees) → instance_all u (group_of own cs ts us) ≡ group_of (λ x. instance u (own x)) cs ts (instance_all u us)
group-instance u own cs ts us =
    checks-instance u own cs (more (group_mark (count_trees ts)) (append_trees (instance_all own ts) us))
    ∙ ap (λ a. check_marks (λ x. instance u (own x)) cs (more (group_mark (count_trees ts)) a)) (instance_all-append_trees u (instance_all own ts) us ∙ ap (λ a. append_trees a (instance_all u us)) (instance_all_twice own u ts))

appends : (gs hs : List Goal) → marked (gs ++ hs) ≡ append_trees (marked gs) (marked hs)
appends [] hs = refl
appends (call t ∷ gs) hs = ap (more t) (appends gs hs)
appends (fork cs ts own now ∷ gs) hs = ap (group_of own cs ts) (appends gs hs) ∙ sym (group-append own cs ts (marked gs) (marked hs))

move : (u : ℕ → Tree) (gs : List Goal) → marked (map (moved u) gs) ≡ instance_all u (marked gs)
move u [] = refl
move u (call t ∷ gs) = ap (more (instance u t)) (move u gs)
move u (fork cs ts own now ∷ gs) = ap (group_of (λ x. instance u (own x)) cs ts) (move u gs) ∙ sym (group-instance u own cs ts (marked gs))

place : (u f : ℕ → Tree) (ps : List goals.Part) → marked (map (placed (λ x. instance u (f x))) ps) ≡ instance_all u (marked (map (placed f) ps))
place u f [] = refl
place u f (goals.call t ∷ ps) = ap₂ more (sym (instance_twice f u t)) (place u f ps)
place u f (goals.group cs ts ∷ ps) = ap (group_of (λ x. instance u (f x)) cs ts) (place u f ps) ∙ sym (group-instance u f cs ts (marked (map (placed f) ps)))

pub marked-calls : (own : ℕ → Tree) (ts : Trees) (gs : List Goal) → marked (calls own ts ++ gs) ≡ append_trees (instance_all own ts) (marked gs)
marked-calls own none gs = refl
marked-calls own (more t ts) gs = ap (more (instance own t)) (marked-calls own ts gs)

pub past-checks : (own : ℕ → Tree) (cs : List Check) (n : ℕ) (us : Trees) → Unmarked (check_marks own cs (more (group_mark n) us)) us
past-checks own [] n us = past_group n
past-checks own (Ground x ∷ cs) n us = past_ground (past-checks own cs n us)
past-checks own (Indep x y ∷ cs) n us = past_apart (past-checks own cs n us)

open_first : (cs now : List Check) (t : Tree) (ts : Trees) (own : ℕ → Tree) (gs : List Goal) → Unmarked (marked (fork cs (more t ts) own now ∷ gs)) (marked (opened (fork cs (more t ts) own now ∷ gs)))
open_first cs now t ts own gs =
    subst (Unmarked (marked (fork cs (more t ts) own now ∷ gs))) (sym (ap (more (instance own t)) (marked-calls own ts gs))) (past-checks own cs (count_trees (more t ts)) (append_trees (instance_all own (more t ts)) (marked gs)))

pub marks : MarksLaw
marks = record { append = appends; moves = move; places = place; opens = open_first }
