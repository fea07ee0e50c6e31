-- Cells that lead to each other only: a push, a binding and an undoing keep it, and no later place stands in their trees.
use Rattle.std.proofs.Common.{◌≡◌, ℕ, zero, suc, ◌+◌, ◌<◌, ◌≤◌, Bool, true, false, ◌||◌, min, ◌⊎◌, List, [], ◌∷◌, ◌++◌, length, take, drop, get_or, set, refl, sym, ap, ◌∙◌, subst, arith, inl, inr}
use Rattle.std.proofs.lemmas.List.{get_or_append_left, get_or-take, get_or-set_same, get_or-set_other, length-take-le}
use Rattle.std.proofs.lemmas.Bool.{cases_lt, cases_eq, false≢true}
use Rattle.ap_term.specs.Tree.{Tree, Trees, var, int, atom, node, none, more}
use Rattle.ap_term.specs.Vars.{occurs, occurs_all}
use Rattle.ap_cells.specs.declared.cells.Raw.{Raw}
use Rattle.ap_cells.specs.declared.cells.Raw.TheVariants.{Free, Same, Int, Atom, Node}
use Rattle.ap_cells.specs.Trees.{tree_at, span, step, trees, Within, Stand}
use Rattle.ap_cells.specs.Store.{freed, Closed, IsMark, IsStore}
use Rattle.ap_cells.proofs.Stores.{freed-closed, freed-length, IsStore-stand}
use Rattle.ap_cells.proofs.Walks.{other_var}

pub Closed-all : (cs : List Raw) (trail : List ℕ) → IsStore cs trail → Closed (length cs) cs
Closed-all cs trail s i d h = (IsStore-stand cs trail s).within i d h

pub Closed-push : (n : ℕ) (cs : List Raw) (c : Raw) → n ≤ length cs → Closed n cs → Closed n (cs ++ c ∷ [])
Closed-push n cs c h k i d l = rw (get_or_append_left cs (c ∷ []) d i (omega arith)) (k i d l)

-- a place bound to a cell that leads to settled ones
pub Closed-bind : (n : ℕ) (cs : List Raw) (x : ℕ) (c : Raw) → x < length cs → Closed n cs → (x < n → Within n x c) → Closed n (set cs x c)
Closed-bind n cs x c h k w i d l = elim (cases_eq i x) [
  | inl e ↦ rw (e, get_or-set_same cs x c d h) (w (omega arith))
  | inr m ↦ rw (get_or-set_other cs x i c d m) (k i d l)
]

Closed-take : (m n : ℕ) (cs : List Raw) → m ≤ n → Closed m cs → Closed m (take n cs)
Closed-take m n cs h k i d l = rw (get_or-take n cs i d (omega arith)) (k i d l)

-- undone to a mark, of what was settled
pub Closed-undo : (m : ℕ) (cs : List Raw) (trail : List ℕ) (n t : ℕ) → m ≤ length cs → Closed m cs → m ≤ n → Closed m (take n (freed (drop t trail) cs))
Closed-undo m cs trail n t l k h = Closed-take m n (freed (drop t trail) cs) h (freed-closed m (drop t trail) cs k l)

-- and of all that stood at the mark
pub Closed-mark : (cs : List Raw) (trail : List ℕ) (n t : ℕ) → IsMark cs trail n t → Closed n (take n (freed (drop t trail) cs))
Closed-mark cs trail n t m = Closed-take n n (freed (drop t trail) cs) (omega arith) m.closed

abbrev args_of : Tree → Trees
args_of (node a ts) = ts
args_of _ = none

abbrev is_node : Tree → Bool
is_node (node a ts) = true
is_node _ = false

abbrev is_more : Trees → Bool
is_more (more t ts) = true
is_more none = false

abbrev first_of : Trees → Tree
first_of (more t ts) = t
first_of none = var 0

abbrev rest_of : Trees → Trees
rest_of (more t ts) = ts
rest_of none = none

neither : (a b : Bool) → a ≡ false → b ≡ false → (a || b) ≡ false
neither a b e f = ap (λ c. c || b) e ∙ f

-- along a chain, where nodes are known
chase : (cs : List Raw) (ts : List Tree) (m x : ℕ) → Stand cs ts → m ≤ length cs → Closed m cs → m ≤ x → (t : Tree) → ((a q k : ℕ) → q + k ≤ m → node a (span ts q k) ≡ t → occurs x t ≡ false)
    → (b i : ℕ) → i < b → i < m → tree_at ts i ≡ t → occurs x t ≡ false
chase cs ts m x s few k l t nodes zero i low lm e = absurd (omega arith)
chase cs ts m x s few k l t nodes (suc b) i low lm e = go (λ j lj lm e. chase cs ts m x s few k l t nodes b j lj lm e) (get_or cs i Free) (s.each i Free (omega arith)) (k i Free lm)
  where
    go : ((j : ℕ) → j < b → j < m → tree_at ts j ≡ t → occurs x t ≡ false) → (c : Raw) → tree_at ts i ≡ step ts i c → Within m i c → occurs x t ≡ false
    go next Free h w = subst (λ u. occurs x u ≡ false) (sym h ∙ e) (other_var x i (λ p. absurd (omega arith)))
    go next (Same j) h w = next j (omega arith) (omega arith) (sym h ∙ e)
    go next (Int z) h w = subst (λ u. occurs x u ≡ false) (sym h ∙ e) refl
    go next (Atom a) h w = subst (λ u. occurs x u ≡ false) (sym h ∙ e) refl
    go next (Node a q n) h w = nodes a q n w (sym h ∙ e)

mutual
  absent : (cs : List Raw) (ts : List Tree) (m x : ℕ) → Stand cs ts → m ≤ length cs → Closed m cs → m ≤ x → (t : Tree) (i : ℕ) → i < m → tree_at ts i ≡ t → occurs x t ≡ false
  absent cs ts m x s few k l (var y) i lm e = chase cs ts m x s few k l (var y) (λ a q n h f. absurd (false≢true (sym (ap is_node f)))) (i + 1) i (omega arith) lm e
  absent cs ts m x s few k l (int z) i lm e = refl
  absent cs ts m x s few k l (atom a) i lm e = refl
  absent cs ts m x s few k l (node a us) i lm e = chase cs ts m x s few k l (node a us) (λ b q n h f. absent_all cs ts m x s few k l us q n h (ap args_of f)) (i + 1) i (omega arith) lm e

  absent_all : (cs : List Raw) (ts : List Tree) (m x : ℕ) → Stand cs ts → m ≤ length cs → Closed m cs → m ≤ x → (us : Trees) (q n : ℕ) → q + n ≤ m → span ts q n ≡ us → occurs_all x us ≡ false
  absent_all cs ts m x s few k l none q n h e = refl
  absent_all cs ts m x s few k l (more u us) q zero h e = absurd (false≢true (ap is_more e))
  absent_all cs ts m x s few k l (more u us) q (suc n) h e =
      neither (occurs x u) (occurs_all x us) (absent cs ts m x s few k l u q (omega arith) (ap first_of e)) (absent_all cs ts m x s few k l us (q + 1) n (omega arith) (ap rest_of e))

-- no later place stands in the trees of settled ones
pub settled_absent : (cs : List Raw) (trail : List ℕ) (m x q n : ℕ) → IsStore cs trail → m ≤ length cs → Closed m cs → m ≤ x → q + n ≤ m → occurs_all x (span (trees cs) q n) ≡ false
settled_absent cs trail m x q n s few k l h = absent_all cs (trees cs) m x (IsStore-stand cs trail s) few k l (span (trees cs) q n) q n h refl

least : (m n j : ℕ) → j ≡ min m n → (j ≡ m × m ≤ n) ⊎ (j ≡ n × n ≤ m)
least m n j e = elim (cases_lt n m) [
  | inl l ↦ inr (omega (arith, e), omega arith)
  | inr g ↦ inl (omega (arith, e), g)
]

-- undone to a mark, of the less of both
pub Closed-back : (m : ℕ) (cs : List Raw) (trail : List ℕ) (n t j : ℕ) → m ≤ length cs → Closed m cs → IsMark cs trail n t → j ≡ min m n
    → Closed j (take n (freed (drop t trail) cs)) × (j ≤ length (take n (freed (drop t trail) cs)))
Closed-back m cs trail n t j l k mark e = elim (least m n j e) [
  | inl p ↦ (rw p.0 (Closed-undo m cs trail n t l k p.1), omega (arith, p.0, p.1, len))
  | inr p ↦ (rw p.0 (Closed-mark cs trail n t mark), omega (arith, p.0, len))
]
  where
    len : length (take n (freed (drop t trail) cs)) ≡ n
    len = length-take-le n (freed (drop t trail) cs) (omega (arith, freed-length (drop t trail) cs, mark.fewer))

-- a place bound, and as many cells as before, or none
pub Closed-with : (m j : ℕ) (cs : List Raw) (x : ℕ) (c : Raw) → x < length cs → Closed m cs → (0 < j → j ≡ m) → ((n : ℕ) → Within n x c → x < j → Within j x c) → Within (length cs) x c → Closed j (set cs x c)
Closed-with m j cs x c h k same within w = elim (cases_lt 0 j) [
  | inl l ↦ Closed-bind j cs x c h (rw (same l) k) (within (length cs) w)
  | inr g ↦ λ i d l. absurd (omega arith)
]

pub no_more : (j m : ℕ) → (0 < j → j ≡ m) → j ≤ m
no_more j m same = elim (cases_lt 0 j) [
  | inl l ↦ omega (arith, same l)
  | inr g ↦ omega arith
]
