-- The trees of some places.
use Rattle.std.proofs.Common.{◌≡◌, ℕ, zero, suc, ◌+◌, ◌<◌, true, false, ◌||◌, nat_eq, List, [], ◌∷◌, ◌++◌, length, map, take, get_or, refl, sym, ap, ◌∙◌, subst, arith, inl, inr, ◌⊎◌}
use Rattle.std.proofs.lemmas.Bool.{or_cases}
use Rattle.std.specs.List.{list_any}
use Rattle.std.proofs.lemmas.List.{take_more, map-append}
use Rattle.ap_term.specs.Tree.{Tree, more, to_trees}
use Rattle.ap_term.specs.Vars.{occurs, occurs_all}
use Rattle.ap_term.proofs.Solutions.{or_left, or_right}
use Rattle.ap_cells.specs.Trees.{tree_at}
use Rattle.ap_cells.specs.declared.cells.Raw.{Raw}
use Rattle.ap_copy.specs.Copies.{tuple_at, Known, KnownAll, AreCopies}
use Rattle.ap_copy.specs.Copying.{IsCopied}
use Rattle.ap_copy.proofs.Blocks.{AreCopies-append, AreCopies-grown}

push-occurs : (ts : List Tree) (rs : List ℕ) (r x : ℕ) → occurs_all x (tuple_at ts (rs ++ r ∷ [])) ≡ true → (occurs_all x (tuple_at ts rs) ≡ true) ⊎ (occurs x (tree_at ts r) ≡ true)
push-occurs ts [] r x h = elim (or_cases (occurs x (tree_at ts r)) false h) [ inl p ↦ inr p | inr p ↦ inl p ]
push-occurs ts (q ∷ rs) r x h = elim (or_cases (occurs x (tree_at ts q)) (occurs_all x (tuple_at ts (rs ++ r ∷ []))) h) [
  | inl p ↦ inl (or_left (occurs x (tree_at ts q)) (occurs_all x (tuple_at ts rs)) p)
  | inr p ↦ elim (push-occurs ts rs r x p) [ inl k ↦ inl (or_right (occurs x (tree_at ts q)) (occurs_all x (tuple_at ts rs)) k) | inr k ↦ inr k ]
]

-- the variables of one more place are known
pub known-more : (ts : List Tree) (roots : List ℕ) (i : ℕ) (ks new : List ℕ) → i < length roots → KnownAll ks (tuple_at ts (take i roots))
    → ((x : ℕ) → list_any (nat_eq x) new ≡ (list_any (nat_eq x) ks || occurs x (tree_at ts (get_or roots i 0)))) → KnownAll new (tuple_at ts (take (i + 1) roots))
known-more ts roots i ks new h k n x o =
    elim (push-occurs ts (take i roots) (get_or roots i 0) x (subst (λ rs. occurs_all x (tuple_at ts rs) ≡ true) (take_more roots i 0 h) o)) [
      | inl p ↦ n x ∙ or_left (list_any (nat_eq x) ks) (occurs x (tree_at ts (get_or roots i 0))) (k x p)
      | inr p ↦ n x ∙ or_right (list_any (nat_eq x) ks) (occurs x (tree_at ts (get_or roots i 0))) p
    ]

-- the variables of one of the places are known
pub known-at : (ts : List Tree) (roots : List ℕ) (i : ℕ) (ks : List ℕ) → i < length roots → KnownAll ks (tuple_at ts roots) → Known ks (tree_at ts (get_or roots i 0))
known-at ts [] i ks h k x o = absurd (omega arith)
known-at ts (q ∷ roots) zero ks h k x o = k x (or_left (occurs x (tree_at ts q)) (occurs_all x (tuple_at ts roots)) o)
known-at ts (q ∷ roots) (suc i) ks h k x o =
    known-at ts roots i ks (omega arith) (λ y p. k y (or_right (occurs y (tree_at ts q)) (occurs_all y (tuple_at ts roots)) p)) x o

pub to_trees-map : (ts : List Tree) (roots : List ℕ) → to_trees (map (tree_at ts) roots) ≡ tuple_at ts roots
to_trees-map ts [] = refl
to_trees-map ts (r ∷ roots) = ap (more (tree_at ts r)) (to_trees-map ts roots)

-- one more term is copied
pub copies-more : (ks : List ℕ) (ts : List Tree) (roots : List ℕ) (i : ℕ) (old new before after : List Raw) → i < length roots → AreCopies ks old before (map (tree_at ts) (take i roots))
    → IsCopied ks old new before after (tree_at ts (get_or roots i 0)) → AreCopies ks new after (map (tree_at ts) (take (i + 1) roots))
copies-more ks ts roots i old new before after h a c =
    subst (λ cs. AreCopies ks new cs (map (tree_at ts) (take (i + 1) roots))) (sym c.split)
    (subst (AreCopies ks new (before ++ c.cell ∷ [])) (sym same)
    (AreCopies-append ks new before (c.cell ∷ []) (map (tree_at ts) (take i roots)) (tree_at ts (get_or roots i 0) ∷ []) (AreCopies-grown ks old new before (map (tree_at ts) (take i roots)) c.grown a) (c.copy, tt)))
  where
    same : map (tree_at ts) (take (i + 1) roots) ≡ map (tree_at ts) (take i roots) ++ tree_at ts (get_or roots i 0) ∷ []
    same = ap (map (tree_at ts)) (take_more roots i 0 h) ∙ map-append (tree_at ts) (take i roots) (get_or roots i 0 ∷ [])
