-- What built-in goals answer.
use Rattle.std.proofs.Common.{◌≡◌, ℕ, Bool, true, false, List, Option, Some, None, refl, sym, ◌∙◌}
use Rattle.std.specs.Prelude.{not, is_none, ◌↔◌, ◌<◌, length}
use Rattle.ap_term.specs.Tree.{Tree}
use Rattle.ap_term.specs.Substitution.{instance, value, Subst}
use Rattle.ap_term.specs.Unification.{mgu}
use Rattle.ap_term.specs.Unifier.{IsMostGeneral}
use Rattle.ap_term.proofs.Solvable.{mgu-general}
use Rattle.ap_cells.specs.declared.cells.Raw.{Raw}
use Rattle.ap_cells.specs.Trees.{tree_at, trees}
use Rattle.ap_match.specs.Fits.{Answered}
use Rattle.ap_match.proofs.Maps.{fits-own}

module _ (old new : List Raw) (a b : ℕ) (in_a : a < length old) (in_b : b < length old) where
  pub not-unified : (same : Bool) → Answered old new (λ k. k a ≡ k b) same → is_none (mgu (tree_at (trees old) a) (tree_at (trees old) b)) ≡ not same
  not-unified same h = go same (mgu t u) h (mgu-general t u)
    where
      t : Tree
      t = tree_at (trees old) a

      u : Tree
      u = tree_at (trees old) b

      go : (same : Bool) (m : Option Subst) → Answered old new (λ k. k a ≡ k b) same → IsMostGeneral t u m → is_none m ≡ not same
      go true (Some s) h g = refl
      go false None h g = refl
      go true None h g =
          let k : ℕ → Tree = tree_at (trees new) in
          let o = h.only k (fits-own new) in
          absurd (g o.0.0 (sym (o.0.1 a in_a) ∙ o.1 ∙ o.0.1 b in_b))
      go false (Some s) h g =
          let k : ℕ → Tree = λ i. instance (value s) (tree_at (trees old) i) in
          absurd (h k (value s, λ i l. refl) g.0)

-- a test that says whether trees are the same
pub same-test : (r s : Bool) (P : Type 0) → ((r ≡ true) ↔ P) → ((s ≡ true) ↔ P) → s ≡ r
same-test true true P h k = refl
same-test false false P h k = refl
same-test true false P h k = k.1 (h.0 refl)
same-test false true P h k = sym (h.1 (k.0 refl))
