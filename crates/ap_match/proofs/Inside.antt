-- The variables of a store's trees are places of it.
use Rattle.std.proofs.Common.{◌≡◌, ℕ, zero, suc, ◌+◌, ◌<◌, ◌≤◌, List, length, get_or, refl, sym, ap, ◌∙◌, subst, arith}
use Rattle.ap_term.specs.Tree.{Tree, size, size_all}
use Rattle.ap_term.specs.Vars.{Local, LocalAll}
use Rattle.ap_cells.specs.declared.cells.Raw.{Raw}
use Rattle.ap_cells.specs.declared.cells.Raw.TheVariants.{Free, Same, Int, Atom, Node}
use Rattle.ap_cells.specs.Trees.{tree_at, span, step, Within, Stand, trees}
use Rattle.ap_cells.specs.Store.{IsStore}
use Rattle.ap_cells.proofs.Stores.{IsStore-stand}

module _ (cs : List Raw) (ts : List Tree) (s : Stand cs ts) where
  -- what is known of smaller trees
  abbrev Smaller : ℕ → Type 0
  Smaller m = (i : ℕ) → i < length cs → size (tree_at ts i) < m → Local (λ x. x < length cs) (tree_at ts i)

  args : (m : ℕ) → Smaller m → (p k : ℕ) → p + k ≤ length cs → size_all (span ts p k) < m → LocalAll (λ x. x < length cs) (span ts p k)
  args m ih p zero w h = tt
  args m ih p (suc k) w h = (ih p (omega arith) (omega arith), args m ih (p + 1) k (omega arith) (omega arith))

  -- of trees of the size m, those at places below j
  at : (m : ℕ) → Smaller m → (j i : ℕ) → i < j → i < length cs → size (tree_at ts i) < suc m → Local (λ x. x < length cs) (tree_at ts i)
  at m ih zero i l h z = absurd (omega arith)
  at m ih (suc j) i l h z = go (λ b d e k. at m ih j b d e k) (get_or cs i Free) refl
    where
      go : ((b : ℕ) → b < j → b < length cs → size (tree_at ts b) < suc m → Local (λ x. x < length cs) (tree_at ts b)) → (c : Raw) → get_or cs i Free ≡ c → Local (λ x. x < length cs) (tree_at ts i)
      go below c p = cell c (s.each i Free h ∙ ap (step ts i) p) (subst (Within (length cs) i) p (s.within i Free h))
        where
          cell : (c : Raw) → tree_at ts i ≡ step ts i c → Within (length cs) i c → Local (λ x. x < length cs) (tree_at ts i)
          cell Free e w = subst (Local (λ x. x < length cs)) (sym e) h
          cell (Same b) e w = subst (Local (λ x. x < length cs)) (sym e) (let q : size (tree_at ts i) ≡ size (tree_at ts b) = ap size e in below b (omega arith) (omega arith) (omega arith))
          cell (Int v) e w = subst (Local (λ x. x < length cs)) (sym e) tt
          cell (Atom a) e w = subst (Local (λ x. x < length cs)) (sym e) tt
          cell (Node a p k) e w = subst (Local (λ x. x < length cs)) (sym e) (let q : size (tree_at ts i) ≡ size_all (span ts p k) + 1 = ap size e in args m ih p k w (omega arith))

  each : (m : ℕ) → Smaller m
  each zero i h z = absurd (omega arith)
  each (suc m) i h z = at m (each m) (length cs) i h h z

  inside-stand : (i : ℕ) → i < length cs → Local (λ x. x < length cs) (tree_at ts i)
  inside-stand i h = each (size (tree_at ts i) + 1) i h (omega arith)

pub inside : (cs : List Raw) (trail : List ℕ) → IsStore cs trail → (i : ℕ) → i < length cs → Local (λ x. x < length cs) (tree_at (trees cs) i)
inside cs trail s i h = inside-stand cs (trees cs) (IsStore-stand cs trail s) i h
