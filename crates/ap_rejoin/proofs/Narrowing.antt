-- Places that are bound to new terms, in which no older variable stands.
use Rattle.std.proofs.Common.{◌≡◌, ℕ, zero, suc, ◌+◌, ◌<◌, ◌≤◌, Bool, true, false, List, length, map, get_or, refl, sym, ap, ◌∙◌, subst, arith}
use Rattle.std.proofs.lemmas.List.{get_or-map}
use Rattle.ap_term.specs.Tree.{Tree, Trees, var}
use Rattle.ap_term.specs.Vars.{occurs, Local, LocalAll}
use Rattle.ap_term.specs.Substitution.{instance, instance_all, shift, value, one}
use Rattle.ap_term.specs.Tuples.{tuple_under}
use Rattle.ap_term.proofs.Locals.{Local-occurs, LocalAll-each, LocalAll-instance_all}
use Rattle.ap_term.proofs.Solutions.{one_absent}
use Rattle.ap_cells.specs.declared.cells.Raw.{Raw}
use Rattle.ap_cells.specs.Trees.{tree_at, trees, span}
use Rattle.ap_cells.proofs.Rounds.{trees-length}
use Rattle.ap_instr.specs.Runs.{spread}
use Rattle.ap_match.specs.Fits.{Answered}
use Rattle.ap_match.proofs.Maps.{fits-agree, unified-fits, bound}
use Rattle.ap_rejoin.specs.Meets.{AreEqual, Narrows}
use Rattle.ap_rejoin.proofs.Fitting.{one-by-one}

pub absent : (base x : ℕ) (t : Tree) → Local (λ y. base ≤ y) t → x < base → occurs x t ≡ false
absent base x t h l = go (occurs x t) refl
  where
    go : (b : Bool) → occurs x t ≡ b → b ≡ false
    go true e = absurd (let k = Local-occurs (λ y. base ≤ y) t h x e in omega arith)
    go false e = refl

span-at : (P : ℕ → Type 0) (ts : List Tree) (p n : ℕ) → LocalAll P (span ts p n) → (j : ℕ) → j < n → Local P (tree_at ts (p + j))
span-at P ts p zero h j l = absurd (omega arith)
span-at P ts p (suc n) h zero l = let e : p ≡ p + 0 = omega arith in subst (λ q. Local P (tree_at ts q)) e h.0
span-at P ts p (suc n) h (suc j) l = let e : (p + 1) + j ≡ p + suc j = omega arith in subst (λ q. Local P (tree_at ts q)) e (span-at P ts (p + 1) n h.1 j (omega arith))

-- the terms of an answer that is copied have new variables alone
pub copied-new : (ts : List Tree) (base p n m : ℕ) (answer : Trees) → span ts p n ≡ instance_all (shift base) answer → m ≡ n → (j : ℕ) → j < m → Local (λ x. base ≤ x) (tree_at ts (p + j))
copied-new ts base p n m answer e q j l =
    span-at (λ x. base ≤ x) ts p n
    (subst (LocalAll (λ x. base ≤ x)) (sym e) (LocalAll-instance_all (λ x. Unit {0}) (λ x. base ≤ x) (shift base) (λ x u. omega arith) answer (LocalAll-each (λ x. Unit {0}) answer (λ x o. tt)))) j (omega arith)

pub narrows-same : (cs : List Raw) (Q : (ℕ → Tree) → Type 0) → Narrows cs cs Q
narrows-same cs Q = record { len = refl; only = λ k z. z; each = λ k z q. z }

pub narrows-more : (old mid new : List Raw) (rs : List ℕ) (p i : ℕ) → i < length rs → Narrows old mid (AreEqual rs p (length rs)) → Narrows mid new (λ k. k (get_or rs i 0) ≡ k (p + i)) → Narrows old new (AreEqual rs p (length rs))
narrows-more old mid new rs p i l a b = record {
  len = b.len ∙ a.len;
  only = λ k z. a.only k (b.only k z);
  each = λ k z q. b.each k (a.each k z q) (q i l);
}

-- one place is bound
module _ (old new : List Raw) (place root x : ℕ) (in_place : place < length old) (in_root : root < length old) (len : length new ≡ length old) (free : tree_at (trees old) place ≡ var x) (none_there : occurs x (tree_at (trees old) root) ≡ false) (now : trees new ≡ map (instance (value (one x (tree_at (trees old) root)))) (trees old)) where
  pub narrows-bound : Narrows old new (λ k. k place ≡ k root)
  narrows-bound =
      let b = unified-fits old new place root in_place in_root len (bound (trees old) (trees new) x (tree_at (trees old) root) (tree_at (trees old) place) free none_there now) in
      record {
        len = len;
        only = λ k z. (b.only k z).0;
        each = λ k z q. let d = b.each k z q in fits-agree new d.0 k (λ i l. sym (d.1 i (omega (arith, len)))) d.2;
      }

  pub bound-same : (i : ℕ) → i < length old → occurs x (tree_at (trees old) i) ≡ false → tree_at (trees new) i ≡ tree_at (trees old) i
  bound-same i l a =
      ap (λ ts. tree_at ts i) now ∙ get_or-map (instance (value (one x (tree_at (trees old) root)))) (trees old) i (var i) (var i) (omega (arith, trees-length old))
      ∙ one_absent x (tree_at (trees old) root) (tree_at (trees old) i) a

-- what is left to be made equal then
pub narrowed : (mid new last : List Raw) (rs : List ℕ) (p : ℕ) → Narrows mid new (AreEqual rs p (length rs)) → (r : Bool) → Answered new last (λ k. tuple_under k rs ≡ spread k p (length rs)) r
    → Answered mid last (λ k. tuple_under k rs ≡ spread k p (length rs)) r
narrowed mid new last rs p w true b = record {
  longer = let a = b.longer in omega (arith, w.len);
  only = λ k z. let q = b.only k z in (w.only k q.0, q.1, tt);
  each = λ k z q. let d = b.each k (w.each k z (one-by-one k rs p q)) q in (d.0, (λ x l. d.1 x (omega (arith, w.len))), d.2);
}
narrowed mid new last rs p w false b = λ k z q. b k (w.each k z (one-by-one k rs p q)) q
