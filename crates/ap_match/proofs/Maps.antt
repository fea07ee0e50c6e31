-- What a push, a binding and a unification make of the maps that fit.
use Rattle.std.proofs.Common.{◌≡◌, ℕ, zero, suc, ◌+◌, ◌<◌, ◌≤◌, ◌==◌, Bool, true, false, if◌then◌else◌, List, [], ◌∷◌, ◌++◌, length, map, ◌⊎◌, inl, inr, refl, sym, ap, ◌∙◌, arith}
use Rattle.std.proofs.lemmas.Bool.Decides.{Decides-eqb}
use Rattle.std.proofs.lemmas.Bool.{cases_lt}
use Rattle.std.proofs.lemmas.List.{get_or-map, get_or_append_left, get_or_push, length_push}
use Rattle.ap_term.specs.Tree.{Tree, var, node, more}
use Rattle.ap_term.specs.Vars.{occurs, Local}
use Rattle.ap_term.specs.Substitution.{instance, instance_all, value, one}
use Rattle.ap_term.proofs.Copies.{instance_var, instance_twice}
use Rattle.ap_term.proofs.Solutions.{instance_same, one_absent, one_absorbed, same_test}
use Rattle.ap_term.proofs.Locals.{instance-Local}
use Rattle.ap_cells.specs.declared.cells.Raw.{Raw}
use Rattle.ap_cells.specs.declared.cells.Raw.TheVariants.{Free, Same, Int, Atom, Node}
use Rattle.ap_cells.specs.declared.top.Top.{Top}
use Rattle.ap_cells.specs.declared.top.Top.TheVariants.{Free as Free_top, Int as Int_top, Atom as Atom_top, Node as Node_top}
use Rattle.ap_cells.specs.Trees.{tree_at, trees, span, step, Within}
use Rattle.ap_cells.specs.Tops.{topped, IsTop}
use Rattle.ap_cells.proofs.Rounds.{trees-length}
use Rattle.ap_instr.specs.Runs.{set, spread}
use Rattle.ap_instr.proofs.Registers.{spread-agree}
use Rattle.ap_unify.specs.Works.{Unified, Answer}
use Rattle.ap_match.specs.Fits.{Fits, Agree, cell_tree, top_tree, Becomes, Answered}

-- ---- the trees under a map of variables

-- places that get instances of their trees
abbrev Under : ℕ → List Tree → (ℕ → Tree) → (ℕ → Tree) → Type 0
Under n ts f k = (i : ℕ) → i < n → k i ≡ instance f (tree_at ts i)

span-under : (n : ℕ) (ts : List Tree) (f k : ℕ → Tree) → Under n ts f k → (p m : ℕ) → p + m ≤ n → instance_all f (span ts p m) ≡ spread k p m
span-under n ts f k u p zero w = refl
span-under n ts f k u p (suc m) w =
    ap (λ t. more t (instance_all f (span ts (p + 1) m))) (sym (u p (omega arith))) ∙ ap (more (k p)) (span-under n ts f k u (p + 1) m (omega arith))

-- a cell's tree is what it says of its place
step-under : (n : ℕ) (ts : List Tree) (f k : ℕ → Tree) → Under n ts f k → (i : ℕ) (c : Raw) → i ≤ n → Within n i c → (c ≡ Free → f i ≡ k i) → instance f (step ts i c) ≡ cell_tree k i c
step-under n ts f k u i Free l w e = e refl
step-under n ts f k u i (Same j) l w e = sym (u j (omega arith))
step-under n ts f k u i (Int z) l w e = refl
step-under n ts f k u i (Atom a) l w e = refl
step-under n ts f k u i (Node a p m) l w e = ap (node a) (span-under n ts f k u p m w)

pub fits-top : (cs : List Raw) (k : ℕ → Tree) (place : ℕ) (t : Top) → Fits cs k → place < length cs → tree_at (trees cs) place ≡ topped (trees cs) t → IsTop (trees cs) (length cs) t → k place ≡ top_tree k t
fits-top cs k place (Free_top x) h l e i = h.1 place l ∙ ap (instance h.0) e ∙ ap (instance h.0) (sym i.1) ∙ sym (h.1 x i.0)
fits-top cs k place (Int_top z) h l e i = h.1 place l ∙ ap (instance h.0) e
fits-top cs k place (Atom_top a) h l e i = h.1 place l ∙ ap (instance h.0) e
fits-top cs k place (Node_top a p m) h l e i = h.1 place l ∙ ap (instance h.0) e ∙ ap (node a) (span-under (length cs) (trees cs) h.0 k h.1 p m i)

-- the trees themselves fit, and the others are instances of them
pub fits-own : (cs : List Raw) → Fits cs (tree_at (trees cs))
fits-own cs = (λ x. var x, λ i h. sym (instance_var (tree_at (trees cs) i)))

-- places behind the end are free
pub fits-agree : (cs : List Raw) (k l : ℕ → Tree) → Agree (length cs) k l → Fits cs k → Fits cs l
fits-agree cs k l a h = (h.0, λ i b. sym (a i b) ∙ h.1 i b)

-- ---- unification

-- a place's term and the term t, which is T under each map that fits
module _ (old new : List Raw) (a : ℕ) (in_a : a < length old) (len : length new ≡ length old) (t : Tree) (T : (ℕ → Tree) → Tree) (is_T : (f k : ℕ → Tree) → Under (length old) (trees old) f k → T k ≡ instance f t) where
  at-new : (by : ℕ → Tree) → trees new ≡ map (instance by) (trees old) → (i : ℕ) → i < length old → tree_at (trees new) i ≡ instance by (tree_at (trees old) i)
  at-new by e i h = ap (λ ts. tree_at ts i) e ∙ get_or-map (instance by) (trees old) i (var i) (var i) (omega (arith, trees-length old))

  unified-term : Unified (trees old) (trees new) (tree_at (trees old) a) t → Becomes old new (λ k. k a ≡ T k) (λ k. Unit {0})
  unified-term u = record {
    longer = omega arith;
    only = λ k h.
        let g : ℕ → Tree = λ x. instance h.0 (u.by x) in
        let each : (i : ℕ) → i < length old → k i ≡ instance g (tree_at (trees old) i) = λ i l. h.1 i (omega arith) ∙ ap (instance h.0) (at-new u.by u.now i l) ∙ instance_twice u.by h.0 (tree_at (trees old) i) in (
          (g, each),
          each a in_a ∙ sym (instance_twice u.by h.0 (tree_at (trees old) a)) ∙ ap (instance h.0) u.unifies ∙ instance_twice u.by h.0 t ∙ sym (is_T g k each),
          tt,
        );
    each = λ k h e.
        let same : (x : ℕ) → instance h.0 (u.by x) ≡ h.0 x = u.general h.0 (sym (h.1 a in_a) ∙ e ∙ is_T h.0 k h.1) in (
          k,
          λ i l. refl,
          (
            h.0,
            λ i l. h.1 i (omega arith)
                ∙ sym (instance_same (λ x. instance h.0 (u.by x)) h.0 (tree_at (trees old) i) same)
                ∙ sym (instance_twice u.by h.0 (tree_at (trees old) i))
                ∙ ap (instance h.0) (sym (at-new u.by u.now i (omega arith))),
          ),
        );
  }

module _ (old new : List Raw) (a b : ℕ) (in_a : a < length old) (in_b : b < length old) (len : length new ≡ length old) where
  pub unified-fits : Unified (trees old) (trees new) (tree_at (trees old) a) (tree_at (trees old) b) → Becomes old new (λ k. k a ≡ k b) (λ k. Unit {0})
  unified-fits u = unified-term old new a in_a len (tree_at (trees old) b) (λ k. k b) (λ f k v. v b in_b) u

  pub answered : (r : Bool) → Answer (trees old) (trees new) (tree_at (trees old) a) (tree_at (trees old) b) r → Answered old new (λ k. k a ≡ k b) r
  answered true u = unified-fits u
  answered false u = λ k h e. u h.0 (sym (h.1 a in_a) ∙ e ∙ h.1 b in_b)

-- a binding is a unification
pub bound : (ts us : List Tree) (x : ℕ) (t u : Tree) → u ≡ var x → occurs x t ≡ false → us ≡ map (instance (value (one x t))) ts → Unified ts us u t
bound ts us x t u free absent e = record {
  by = value (one x t);
  now = e;
  unifies = ap (instance (value (one x t))) free ∙ here ∙ sym (one_absent x t t absent);
  general = λ g h. one_absorbed g x t (sym (ap (instance g) free) ∙ h);
}
  where
    here : value (one x t) x ≡ t
    here = ap (λ b. if b then t else var x) (same_test x x refl)

-- an unbound place bound to the term of a cell
pub bound-fits : (old new : List Raw) (x : ℕ) (c : Raw) → x < length old → Within (length old) x c → (c ≡ Free → ⊥) → tree_at (trees old) x ≡ var x → occurs x (step (trees old) x c) ≡ false → length new ≡ length old
    → trees new ≡ map (instance (value (one x (step (trees old) x c)))) (trees old) → Becomes old new (λ k. k x ≡ cell_tree k x c) (λ k. Unit {0})
bound-fits old new x c l within bare free absent len now =
    unified-term old new x l len (step (trees old) x c) (λ k. cell_tree k x c) (λ f k u. sym (step-under (length old) (trees old) f k u x c (omega arith) within (λ e. absurd (bare e))))
    (bound (trees old) (trees new) x (step (trees old) x c) (tree_at (trees old) x) free absent now)

-- ---- a push

pub set-here : (k : ℕ → Tree) (n : ℕ) (t : Tree) → set k n t n ≡ t
set-here k n t = ap (λ b. if b then t else k n) ((Decides-eqb n n).1 refl)

pub set-below : (k : ℕ → Tree) (n i : ℕ) (t : Tree) → i < n → set k n t i ≡ k i
set-below k n i t l = go (i == n) refl
  where
    go : (b : Bool) → (i == n) ≡ b → (if b then t else k i) ≡ k i
    go true e = absurd (let q : i ≡ n = (Decides-eqb i n).0 e in omega arith)
    go false e = refl

-- a cell that leads to places below says the same under maps that agree there
cell-agree : (n : ℕ) (k l : ℕ → Tree) → Agree n k l → (c : Raw) → (c ≡ Free → k n ≡ l n) → Within n n c → cell_tree k n c ≡ cell_tree l n c
cell-agree n k l a Free e w = e refl
cell-agree n k l a (Same j) e w = a j w
cell-agree n k l a (Int z) e w = refl
cell-agree n k l a (Atom b) e w = refl
cell-agree n k l a (Node b p m) e w = ap (node b) (spread-agree k l p m (λ i b c. a i (omega arith)))

-- with one tree more
module _ (old new : List Raw) (t : Tree) (pushed : trees new ≡ trees old ++ t ∷ []) where
  pub pushed-below : (i : ℕ) → i < length old → tree_at (trees new) i ≡ tree_at (trees old) i
  pushed-below i h = ap (λ ts. tree_at ts i) pushed ∙ get_or_append_left (trees old) (t ∷ []) (var i) i (omega (arith, trees-length old))

  pub pushed-last : tree_at (trees new) (length old) ≡ t
  pushed-last = ap (λ ts. tree_at ts (length old)) pushed ∙ get_or_push (trees old) t (var (length old)) (length old) (trees-length old)

-- the term of another place
module _ (old new : List Raw) (to : ℕ) (in_to : to < length old) (len : length new ≡ length old + 1) (pushed : trees new ≡ trees old ++ tree_at (trees old) to ∷ []) where
  pub same-longer : (k : ℕ → Tree) → Fits old k → k (length old) ≡ k to → Fits new k
  same-longer k h e = (h.0, λ i l. at i l (cases_lt i (length old)))
    where
      at : (i : ℕ) → i < length new → (i < length old) ⊎ (length old ≤ i) → k i ≡ instance h.0 (tree_at (trees new) i)
      at i l (inl b) = h.1 i b ∙ ap (instance h.0) (sym (pushed-below old new (tree_at (trees old) to) pushed i b))
      at i l (inr b) =
          let q : i ≡ length old = omega arith in
          ap k q ∙ e ∙ h.1 to in_to ∙ ap (instance h.0) (sym (pushed-last old new (tree_at (trees old) to) pushed) ∙ ap (tree_at (trees new)) (sym q))

  pub same-fits : Becomes old new (λ k. Unit {0}) (λ k. k (length old) ≡ k to)
  same-fits = record {
    longer = omega arith;
    only = λ k h.
        let under : Under (length old) (trees old) h.0 k = λ i l. h.1 i (omega arith) ∙ ap (instance h.0) (pushed-below old new (tree_at (trees old) to) pushed i l) in
        ((h.0, under), tt, h.1 (length old) (omega arith) ∙ ap (instance h.0) (pushed-last old new (tree_at (trees old) to) pushed) ∙ sym (under to in_to));
    each = λ k h e.
        let l : ℕ → Tree = set k (length old) (k to) in
        let a : Agree (length old) k l = λ i b. sym (set-below k (length old) i (k to) b) in
        (l, a, same-longer l (fits-agree old k l a h) (set-here k (length old) (k to) ∙ a to in_to));
  }

module _ (old : List Raw) (c : Raw) (inside : (i : ℕ) → i < length old → Local (λ x. x < length old) (tree_at (trees old) i)) (within : Within (length old) (length old) c) (pushed : trees (old ++ c ∷ []) ≡ trees old ++ step (trees old) (length old) c ∷ []) where
  abbrev new : List Raw
  new = old ++ c ∷ []

  before : (i : ℕ) → i < length old → tree_at (trees new) i ≡ tree_at (trees old) i
  before = pushed-below old new (step (trees old) (length old) c) pushed

  end : tree_at (trees new) (length old) ≡ step (trees old) (length old) c
  end = pushed-last old new (step (trees old) (length old) c) pushed

  -- a map that fits the old cells, with a tree for the new place
  pub fits-longer : (k : ℕ → Tree) → Fits old k → k (length old) ≡ cell_tree k (length old) c → Fits new k
  fits-longer k h e = (g, at)
    where
      g : ℕ → Tree
      g = set h.0 (length old) (k (length old))

      under : Under (length old) (trees old) g k
      under i l = h.1 i l ∙ sym (instance-Local (λ x. x < length old) g h.0 (λ x b. set-below h.0 (length old) x (k (length old)) b) (tree_at (trees old) i) (inside i l))

      at : (i : ℕ) → i < length new → k i ≡ instance g (tree_at (trees new) i)
      at i l = elim (cases_lt i (length old)) [
        | inl b ↦ under i b ∙ ap (instance g) (sym (before i b))
        | inr b ↦
            let q : i ≡ length old = omega (arith, length_push old c) in
            ap k q ∙ e ∙ sym (step-under (length old) (trees old) g k under (length old) c (omega arith) within (λ p. set-here h.0 (length old) (k (length old)))) ∙ ap (instance g) (sym end ∙ ap (tree_at (trees new)) (sym q))
      ]

  pub push-fits : Becomes old new (λ k. Unit {0}) (λ k. k (length old) ≡ cell_tree k (length old) c)
  push-fits = record {
    longer = omega (arith, length_push old c);
    only = λ k h.
        let under : Under (length old) (trees old) h.0 k = λ i l. h.1 i (omega (arith, length_push old c)) ∙ ap (instance h.0) (before i l) in
        let own : k (length old) ≡ instance h.0 (step (trees old) (length old) c) = h.1 (length old) (omega (arith, length_push old c)) ∙ ap (instance h.0) end in
        ((h.0, under), tt, own ∙ step-under (length old) (trees old) h.0 k under (length old) c (omega arith) within (λ p. sym (own ∙ ap (λ d. instance h.0 (step (trees old) (length old) d)) p)));
    each = λ k h e.
        let l : ℕ → Tree = set k (length old) (cell_tree k (length old) c) in
        let a : Agree (length old) k l = λ i b. sym (set-below k (length old) i (cell_tree k (length old) c) b) in
        (l, a, fits-longer l (fits-agree old k l a h) (made k));
  }
    where
      made : (k : ℕ → Tree) → set k (length old) (cell_tree k (length old) c) (length old) ≡ cell_tree (set k (length old) (cell_tree k (length old) c)) (length old) c
      made k =
          set-here k (length old) (cell_tree k (length old) c)
          ∙ cell-agree (length old) k (set k (length old) (cell_tree k (length old) c)) (λ i b. sym (set-below k (length old) i (cell_tree k (length old) c) b)) c
          (λ e. sym (set-here k (length old) (cell_tree k (length old) c) ∙ ap (cell_tree k (length old)) e)) within
