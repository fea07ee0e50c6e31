-- What new cells, and a term that is matched with a constant, make of the maps that fit.
use Rattle.std.proofs.Common.{◌≡◌, ℕ, ℤ, zero, suc, ◌+◌, ◌<◌, ◌≤◌, ◌==◌, ◌||◌, Bool, true, false, List, [], ◌∷◌, ◌++◌, length, refl, sym, ap, ◌∙◌, subst, arith}
use Rattle.std.specs.Ordering.{int_eq}
use Rattle.std.proofs.lemmas.Bool.Decides.{Decides-int_eq}
use Rattle.std.proofs.lemmas.Bool.{false≢true}
use Rattle.ap_term.specs.Tree.{Tree, int, atom, node}
use Rattle.ap_term.specs.Vars.{occurs, occurs_all}
use Rattle.ap_term.proofs.Solutions.{same_var, same_test}
use Rattle.ap_cells.specs.declared.cells.Raw.{Raw}
use Rattle.ap_cells.specs.Trees.{tree_at, trees, span, step, Within}
use Rattle.ap_cells.specs.Store.{IsStore}
use Rattle.ap_instr.specs.Runs.{spread}
use Rattle.ap_instr.proofs.Registers.{spread-agree}
use Rattle.ap_match.specs.Fits.{Fits, Agree, cell_tree, Becomes, Answered}
use Rattle.ap_match.proofs.Inside.{inside}
use Rattle.ap_match.proofs.Maps.{fits-longer, push-fits}

-- a new cell behind the old ones
module _ (old new : List Raw) (trail : List ℕ) (c : Raw) (s : IsStore old trail) (w : Within (length old) (length old) c) (e : new ≡ old ++ c ∷ []) (t : trees new ≡ trees old ++ step (trees old) (length old) c ∷ []) where
  pushed : trees (old ++ c ∷ []) ≡ trees old ++ step (trees old) (length old) c ∷ []
  pushed = subst (λ cs. trees cs ≡ trees old ++ step (trees old) (length old) c ∷ []) e t

  pub push-becomes : (place : ℕ) → place ≡ length old → Becomes old new (λ k. Unit {0}) (λ k. k place ≡ cell_tree k place c)
  push-becomes place p =
      subst (λ n. Becomes old new (λ k. Unit {0}) (λ k. k n ≡ cell_tree k n c)) (sym p)
      (subst (λ cs. Becomes old cs (λ k. Unit {0}) (λ k. k (length old) ≡ cell_tree k (length old) c)) (sym e) (push-fits old c (inside old trail s) w pushed))

  -- under each map that gives the new place its tree
  pub push-longer : (place : ℕ) → place ≡ length old → (k : ℕ → Tree) → Fits old k → k place ≡ cell_tree k place c → Fits new k
  push-longer place p k h q =
      subst (λ cs. Fits cs k) (sym e) (fits-longer old c (inside old trail s) w pushed k h (subst (λ n. k n ≡ cell_tree k n c) p q))

-- what is asked, in other words
pub Becomes-asked : (old new : List Raw) (P Q R : (ℕ → Tree) → Type 0) → ((k : ℕ → Tree) → Fits old k → P k → Q k) → ((k : ℕ → Tree) → Fits old k → Q k → P k) → Becomes old new P R → Becomes old new Q R
Becomes-asked old new P Q R there back b = record {
  longer = b.longer;
  only = λ k h. let u = b.only k h in (u.0, there k u.0 u.1, u.2);
  each = λ k h q. b.each k h (back k h q);
}

pub Answered-asked : (old new : List Raw) (P Q : (ℕ → Tree) → Type 0) → ((k : ℕ → Tree) → Fits old k → P k → Q k) → ((k : ℕ → Tree) → Fits old k → Q k → P k) → (r : Bool) → Answered old new P r → Answered old new Q r
Answered-asked old new P Q there back true b = Becomes-asked old new P Q (λ k. Unit {0}) there back b
Answered-asked old new P Q there back false never = λ k h q. never k h (back k h q)

-- what holds already
pub Becomes-same : (cs : List Raw) (P : (ℕ → Tree) → Type 0) → ((k : ℕ → Tree) → Fits cs k → P k) → Becomes cs cs P (λ k. Unit {0})
Becomes-same cs P holds = record { longer = omega arith; only = λ k h. (h, holds k h, tt); each = λ k h p. (k, λ i b. refl, h) }

-- a place that has a tree already, which is a constant or not
pub decided : (cs : List Raw) (place : ℕ) (t u : Tree) (b : Bool) → ((k : ℕ → Tree) → Fits cs k → k place ≡ t) → (b ≡ true → t ≡ u) → (t ≡ u → b ≡ true) → Answered cs cs (λ k. k place ≡ u) b
decided cs place t u true is then only = Becomes-same cs (λ k. k place ≡ u) (λ k h. is k h ∙ then refl)
decided cs place t u false is then only = λ k h e. false≢true (only (sym (is k h) ∙ e))

pub decided-atom : (cs : List Raw) (place a b : ℕ) (r : Bool) → ((k : ℕ → Tree) → Fits cs k → k place ≡ atom a) → r ≡ (a == b) → Answered cs cs (λ k. k place ≡ atom b) r
decided-atom cs place a b r is e = decided cs place (atom a) (atom b) r is (λ p. ap atom (same_var a b (sym e ∙ p))) (λ p. let q : a ≡ b = cc in e ∙ same_test a b q)

pub decided-integer : (cs : List Raw) (place : ℕ) (x y : ℤ) (r : Bool) → ((k : ℕ → Tree) → Fits cs k → k place ≡ int x) → r ≡ int_eq x y → Answered cs cs (λ k. k place ≡ int y) r
decided-integer cs place x y r is e = decided cs place (int x) (int y) r is (λ p. ap int ((Decides-int_eq x y).0 (sym e ∙ p))) (λ p. let q : x ≡ y = cc in e ∙ (Decides-int_eq x y).1 q)

-- ---- a compound term of cells that are there

-- no variable stands in places where it stands in none
pub span-absent : (ts : List Tree) (x p m : ℕ) → ((i : ℕ) → i < m → occurs x (tree_at ts (p + i)) ≡ false) → occurs_all x (span ts p m) ≡ false
span-absent ts x p zero h = refl
span-absent ts x p (suc m) h =
    ap (λ b. b || occurs_all x (span ts (p + 1) m)) (let q : p ≡ p + 0 = omega arith in ap (λ n. occurs x (tree_at ts n)) q ∙ h 0 (omega arith))
    ∙ span-absent ts x (p + 1) m (λ i l. let q : p + 1 + i ≡ p + suc i = omega arith in ap (λ n. occurs x (tree_at ts n)) q ∙ h (suc i) (omega arith))

-- a new place for the term, made equal to another
pub built-answered : (old mid new : List Raw) (place whole a p m : ℕ) → place < length old → p + m ≤ length old → Becomes old mid (λ k. Unit {0}) (λ k. k whole ≡ node a (spread k p m)) → (r : Bool)
    → Answered mid new (λ k. k place ≡ k whole) r → Answered old new (λ k. k place ≡ node a (spread k p m)) r
built-answered old mid new place whole a p m in_place in_args made r = go r
  where
    -- the term at the new place
    laid : (k : ℕ → Tree) → Fits old k → k place ≡ node a (spread k p m) → (l : ℕ → Tree) × Agree (length old) k l × Fits mid l × (l place ≡ l whole)
    laid k h e =
        let w = made.each k h tt in
        let l : ℕ → Tree = w.0 in
        let q : k place ≡ l place = w.1 place in_place in
        (l, w.1, w.2, sym q ∙ e ∙ ap (node a) (spread-agree k l p m (λ i b c. w.1 i (omega arith))) ∙ sym (made.only l w.2).2)

    go : (r : Bool) → Answered mid new (λ k. k place ≡ k whole) r → Answered old new (λ k. k place ≡ node a (spread k p m)) r
    go true becomes = record {
      longer = let b : length old ≤ length mid = made.longer in let c : length mid ≤ length new = becomes.longer in omega arith;
      only = λ k h. let o = becomes.only k h in let u = made.only k o.0 in (u.0, o.1 ∙ u.2, tt);
      each = λ k h e.
          let w = laid k h e in
          let v = becomes.each w.0 w.2 w.3 in
          (v.0, λ i b. w.1 i b ∙ v.1 i (let c : length old ≤ length mid = made.longer in omega arith), v.2);
    }
    go false never = λ k h e. let w = laid k h e in never w.0 w.2 w.3
