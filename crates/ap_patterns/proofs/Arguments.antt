-- The arguments of a goal, one place after another.
use Rattle.std.proofs.Common.{◌≡◌, ℕ, zero, suc, ◌+◌, ◌<◌, ◌≤◌, ◌&&◌, not, Bool, true, false, cond, if◌then◌else◌, IsTrue, nat_le, List, [], ◌∷◌, ◌++◌, length, take, drop, get_or, map, append_assoc, append-nil, refl, ap, ap₂, sym, ◌∙◌, arith}
use Rattle.std.proofs.lemmas.List.{drop_more, drop_all}
use Rattle.std.proofs.lemmas.Bool.{and_parts, and_from, leb-true, le-leb}
use Rattle.ap_term.specs.declared.terms.Term.{Term}
use Rattle.ap_term.specs.Tree.{Tree, Trees, var, int, atom, node, more, none, count_trees}
use Rattle.ap_term.specs.TermView.{tree_of, trees_of}
use Rattle.ap_term.proofs.TermLists.{trees_of-drop_more, count-trees_of}
use Rattle.ap_term.specs.WellFormed.{callable, numbered, numbered_all, IsClause}
use Rattle.ap_term.specs.Goals.{Clause}
use Rattle.ap_sharing.specs.VarSet.{has, empty, just, union, meets}
use Rattle.ap_sharing.specs.Share.{Share, nonground}
use Rattle.ap_sharing.proofs.Elements.{union_assoc, union-empty, empty-union}
use Rattle.ap_absunify.specs.TermSets.{var_set}
use Rattle.ap_absunify.specs.AfterUnify.{is_free}
use Rattle.ap_patterns.specs.Places.{arguments, argument_sets, places, free_places}
use Rattle.ap_patterns.specs.AfterCall.{grounded, kept_free}

pub two : (i : ℕ) → suc (i + 1) ≡ i + 1 + 1
two i = omega arith

-- one more piece is found, and the rest is left
pub turn : (found new piece now rest whole : ℕ) → new ≡ union found piece → now ≡ union piece rest → union found now ≡ whole → union new rest ≡ whole
turn found new piece now rest whole n e w = ap (λ z. union z rest) n ∙ union_assoc found piece rest ∙ ap (union found) (sym e) ∙ w

places-more : (s i a : ℕ) (sets : List ℕ) → i < length sets → a ≡ get_or sets i a → places (i + 1) s (drop i sets) ≡ union (if meets s a then just (i + 1) else empty) (places (i + 1 + 1) s (drop (i + 1) sets))
places-more s i a sets h e =
    ap (places (i + 1) s) (drop_more sets i a h)
    ∙ ap₂ (λ b k. union (if meets s b then just (i + 1) else empty) (places k s (drop (i + 1) sets))) (sym e) (two i)

pub places-turn : (s found new i a whole : ℕ) (sets : List ℕ) → i < length sets → a ≡ get_or sets i a → new ≡ union found (if meets s a then just (i + 1) else empty)
    → union found (places (i + 1) s (drop i sets)) ≡ whole → union new (places (i + 1 + 1) s (drop (i + 1) sets)) ≡ whole
places-turn s found new i a whole sets h e n w =
    turn found new (if meets s a then just (i + 1) else empty) (places (i + 1) s (drop i sets)) (places (i + 1 + 1) s (drop (i + 1) sets)) whole n (places-more s i a sets h e) w

grounded-more : (success : Share) (i a : ℕ) (sets : List ℕ) → i < length sets → a ≡ get_or sets i a
    → grounded (i + 1) success (drop i sets) ≡ union (if not (has (nonground success) (i + 1)) then a else empty) (grounded (i + 1 + 1) success (drop (i + 1) sets))
grounded-more success i a sets h e =
    ap (grounded (i + 1) success) (drop_more sets i a h)
    ∙ ap₂ (λ b k. union (if not (has (nonground success) (i + 1)) then b else empty) (grounded k success (drop (i + 1) sets))) (sym e) (two i)

pub grounded-turn : (success : Share) (found new i a whole : ℕ) (sets : List ℕ) → i < length sets → a ≡ get_or sets i a → new ≡ union found (if not (has (nonground success) (i + 1)) then a else empty)
    → union found (grounded (i + 1) success (drop i sets)) ≡ whole → union new (grounded (i + 1 + 1) success (drop (i + 1) sets)) ≡ whole
grounded-turn success found new i a whole sets h e n w =
    turn found new (if not (has (nonground success) (i + 1)) then a else empty) (grounded (i + 1) success (drop i sets)) (grounded (i + 1 + 1) success (drop (i + 1) sets)) whole n
    (grounded-more success i a sets h e) w

free_places-more : (fr i : ℕ) (t : Term) (ts : List Term) → i < length ts → t ≡ get_or ts i t
    → free_places (i + 1) fr (trees_of (drop i ts)) ≡ union (if is_free fr (tree_of t) then just (i + 1) else empty) (free_places (i + 1 + 1) fr (trees_of (drop (i + 1) ts)))
free_places-more fr i t ts h e =
    ap (free_places (i + 1) fr) (trees_of-drop_more ts i t h e)
    ∙ ap (λ k. union (if is_free fr (tree_of t) then just (i + 1) else empty) (free_places k fr (trees_of (drop (i + 1) ts)))) (two i)

pub free_places-turn : (fr found new i whole : ℕ) (t : Term) (ts : List Term) → i < length ts → t ≡ get_or ts i t → new ≡ union found (if is_free fr (tree_of t) then just (i + 1) else empty)
    → union found (free_places (i + 1) fr (trees_of (drop i ts))) ≡ whole → union new (free_places (i + 1 + 1) fr (trees_of (drop (i + 1) ts))) ≡ whole
free_places-turn fr found new i whole t ts h e n w =
    turn found new (if is_free fr (tree_of t) then just (i + 1) else empty) (free_places (i + 1) fr (trees_of (drop i ts))) (free_places (i + 1 + 1) fr (trees_of (drop (i + 1) ts))) whole n
    (free_places-more fr i t ts h e) w

kept_free-more : (fr sfr i : ℕ) (t : Term) (ts : List Term) → i < length ts → t ≡ get_or ts i t
    → kept_free (i + 1) fr sfr (trees_of (drop i ts)) ≡ union (if is_free fr (tree_of t) && has sfr (i + 1) then var_set (tree_of t) else empty) (kept_free (i + 1 + 1) fr sfr (trees_of (drop (i + 1) ts)))
kept_free-more fr sfr i t ts h e =
    ap (kept_free (i + 1) fr sfr) (trees_of-drop_more ts i t h e)
    ∙ ap (λ k. union (if is_free fr (tree_of t) && has sfr (i + 1) then var_set (tree_of t) else empty) (kept_free k fr sfr (trees_of (drop (i + 1) ts)))) (two i)

pub kept_free-turn : (fr sfr found new i whole : ℕ) (t : Term) (ts : List Term) → i < length ts → t ≡ get_or ts i t
    → new ≡ union found (if is_free fr (tree_of t) && has sfr (i + 1) then var_set (tree_of t) else empty)
    → union found (kept_free (i + 1) fr sfr (trees_of (drop i ts))) ≡ whole → union new (kept_free (i + 1 + 1) fr sfr (trees_of (drop (i + 1) ts))) ≡ whole
kept_free-turn fr sfr found new i whole t ts h e n w =
    turn found new (if is_free fr (tree_of t) && has sfr (i + 1) then var_set (tree_of t) else empty) (kept_free (i + 1) fr sfr (trees_of (drop i ts)))
    (kept_free (i + 1 + 1) fr sfr (trees_of (drop (i + 1) ts))) whole n (kept_free-more fr sfr i t ts h e) w

-- at the end nothing is left
pub sets_done : (F : List ℕ → ℕ) → F [] ≡ empty → (sets : List ℕ) (i found whole : ℕ) → length sets ≤ i → union found (F (drop i sets)) ≡ whole → found ≡ whole
sets_done F nothing sets i found whole h w = sym (union-empty found) ∙ ap (union found) (sym nothing) ∙ ap (λ ss. union found (F ss)) (sym (drop_all i sets h)) ∙ w

pub terms_done : (F : Trees → ℕ) → F none ≡ empty → (ts : List Term) (i found whole : ℕ) → length ts ≤ i → union found (F (trees_of (drop i ts))) ≡ whole → found ≡ whole
terms_done F nothing ts i found whole h w =
    sym (union-empty found) ∙ ap (union found) (sym nothing) ∙ ap (λ us. union found (F (trees_of us))) (sym (drop_all i ts h)) ∙ w

-- ---- how many, and which numbers

pub callable-few : (t : Tree) → IsTrue (callable t) → count_trees (arguments t) ≤ 255
callable-few (var x) h = omega arith
callable-few (int z) h = omega arith
callable-few (atom a) h = omega arith
callable-few (node a ts) h = leb-true (count_trees ts) 255 (and_parts (nat_le 1 (count_trees ts)) (nat_le (count_trees ts) 255) h).1

pub arguments-numbered : (n : ℕ) (t : Tree) → IsTrue (numbered n t) → IsTrue (numbered_all n (arguments t))
arguments-numbered n (var x) h = refl
arguments-numbered n (int z) h = refl
arguments-numbered n (atom a) h = refl
arguments-numbered n (node a ts) h = h

mutual
  pub numbered-more : (n m : ℕ) (t : Tree) → n ≤ m → IsTrue (numbered n t) → IsTrue (numbered m t)
  numbered-more n m (var x) l h =
      let r = and_parts (nat_le 1 x) (nat_le x n) h in
      let k : x ≤ n = leb-true x n r.1 in
      and_from (nat_le 1 x) (nat_le x m) r.0 (le-leb x m (omega arith))
  numbered-more n m (int z) l h = refl
  numbered-more n m (atom a) l h = refl
  numbered-more n m (node a ts) l h = numbered_all-more n m ts l h

  pub numbered_all-more : (n m : ℕ) (ts : Trees) → n ≤ m → IsTrue (numbered_all n ts) → IsTrue (numbered_all m ts)
  numbered_all-more n m none l h = refl
  numbered_all-more n m (more t ts) l h =
      let r = and_parts (numbered n t) (numbered_all n ts) h in
      and_from (numbered m t) (numbered_all m ts) (numbered-more n m t l r.0) (numbered_all-more n m ts l r.1)

-- a clause's head
pub head-callable : (c : Clause) → IsClause c → IsTrue (callable c.head)
head-callable c h = (and_parts (callable c.head) (numbered c.vars c.head) h.head).0

pub head-numbered : (c : Clause) → IsClause c → IsTrue (numbered c.vars c.head)
head-numbered c h = (and_parts (callable c.head) (numbered c.vars c.head) h.head).1

pub head-in_range : (c : Clause) → IsClause c → IsTrue (numbered 255 c.head)
head-in_range c h = numbered-more c.vars 255 c.head h.few (head-numbered c h)

pub argument_sets-length : (ts : Trees) → length (argument_sets ts) ≡ count_trees ts
argument_sets-length none = refl
argument_sets-length (more t ts) = omega (arith, argument_sets-length ts)

pub sets_counted : (xs : List ℕ) (ts : List Term) (i : ℕ) → length ts ≤ i → xs ++ argument_sets (trees_of (drop i ts)) ≡ argument_sets (trees_of ts) → length xs ≡ length ts
sets_counted xs ts i h w =
    ap length (sym (append-nil xs) ∙ ap (λ us. xs ++ argument_sets (trees_of us)) (sym (drop_all i ts h)) ∙ w) ∙ argument_sets-length (trees_of ts) ∙ count-trees_of ts

pub ruleset rules_of_arguments = (trees_of-drop_more, append_assoc, append-nil)

pub ruleset rules_of_goals = (callable-few, arguments-numbered, numbered_all-more, argument_sets-length, count-trees_of)

pub ruleset rules_of_returns = (callable-few, arguments-numbered, argument_sets-length, count-trees_of, empty-union)
