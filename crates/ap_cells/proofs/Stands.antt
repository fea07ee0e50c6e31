-- Cells that stand for trees, and what a push, a binding and a cut leave.
use Rattle.std.proofs.Common.{◌≡◌, ℕ, zero, suc, ◌+◌, ◌<◌, ◌≤◌, Bool, true, false, ◌==◌, List, [], ◌∷◌, ◌++◌, length, map, take, get_or, set, refl, sym, ap, ◌∙◌, subst, arith, inl, inr, length-set}
use Rattle.std.proofs.lemmas.List.{get_or-map, get_or_append_left, get_or_push, get_or-take, get_or-set_same, get_or-set_other, length_push, length-take-le, length-map}
use Rattle.std.proofs.lemmas.Bool.{cases_lt, cases_eq}
use Rattle.ap_term.specs.Tree.{Tree, var, node, more}
use Rattle.ap_term.specs.Substitution.{instance, instance_all, value, one}
use Rattle.ap_term.specs.Vars.{occurs}
use Rattle.ap_term.proofs.Solutions.{same_var, one_absent}
use Rattle.ap_cells.specs.declared.cells.Raw.{Raw}
use Rattle.ap_cells.specs.declared.cells.Raw.TheVariants.{Free, Same, Int, Atom, Node}
use Rattle.ap_cells.specs.Trees.{tree_at, span, step, Within, Stand}
use Rattle.ap_cells.specs.Store.{Closed}
use Rattle.ap_term.proofs.Solutions.{one_here}

pub span-map : (f : ℕ → Tree) (ts : List Tree) (p n : ℕ) → p + n ≤ length ts → span (map (instance f) ts) p n ≡ instance_all f (span ts p n)
span-map f ts p zero h = refl
span-map f ts p (suc n) h =
    ap (λ u. more u (span (map (instance f) ts) (p + 1) n)) (get_or-map (instance f) ts p (var p) (var p) (omega arith)) ∙ ap (more (instance f (tree_at ts p))) (span-map f ts (p + 1) n (omega arith))

-- a cell's tree, and then an instance of all
pub step-map : (f : ℕ → Tree) (ts : List Tree) (i : ℕ) (c : Raw) → Within (length ts) i c → i < length ts → (c ≡ Free → f i ≡ var i) → step (map (instance f) ts) i c ≡ instance f (step ts i c)
step-map f ts i Free w h k = sym (k refl)
step-map f ts i (Same j) w h k = get_or-map (instance f) ts j (var j) (var j) (omega arith)
step-map f ts i (Int z) w h k = refl
step-map f ts i (Atom a) w h k = refl
step-map f ts i (Node a p n) w h k = ap (node a) (span-map f ts p n w)

span-same : (ts us : List Tree) (n : ℕ) → ((i : ℕ) → i < n → tree_at ts i ≡ tree_at us i) → (p k : ℕ) → p + k ≤ n → span ts p k ≡ span us p k
span-same ts us n e p zero h = refl
span-same ts us n e p (suc k) h = ap (λ u. more u (span ts (p + 1) k)) (e p (omega arith)) ∙ ap (more (tree_at us p)) (span-same ts us n e (p + 1) k (omega arith))

-- a cell's tree depends on the places that it leads to
pub step-same : (ts us : List Tree) (n : ℕ) → ((i : ℕ) → i < n → tree_at ts i ≡ tree_at us i) → (i : ℕ) (c : Raw) → Within n i c → i ≤ n → step ts i c ≡ step us i c
step-same ts us n e i Free w h = refl
step-same ts us n e i (Same j) w h = e j (omega arith)
step-same ts us n e i (Int z) w h = refl
step-same ts us n e i (Atom a) w h = refl
step-same ts us n e i (Node a p k) w h = ap (node a) (span-same ts us n e p k w)

Within-more : (m n i : ℕ) (c : Raw) → m ≤ n → Within m i c → Within n i c
Within-more m n i Free h w = tt
Within-more m n i (Same j) h w = w
Within-more m n i (Int z) h w = tt
Within-more m n i (Atom a) h w = tt
Within-more m n i (Node a p k) h w = omega arith

pub Stand-push : (cs : List Raw) (ts : List Tree) (c : Raw) → Stand cs ts → Within (length cs) (length cs) c → Stand (cs ++ c ∷ []) (ts ++ step ts (length cs) c ∷ [])
Stand-push cs ts c s w = record {
  len = length_push ts u ∙ ap (λ n. n + 1) s.len ∙ sym (length_push cs c);
  each = λ i d h. each i d (omega (arith, length_push cs c));
  within = λ i d h. subst (λ n. Within n i (get_or (cs ++ c ∷ []) i d)) (sym (length_push cs c)) (within i d (omega (arith, length_push cs c)));
}
  where
    u : Tree
    u = step ts (length cs) c

    below : (i : ℕ) → i < length cs → tree_at ts i ≡ tree_at (ts ++ u ∷ []) i
    below i h = sym (get_or_append_left ts (u ∷ []) (var i) i (omega (arith, s.len)))

    last : (d : Raw) → get_or (cs ++ c ∷ []) (length cs) d ≡ c
    last d = get_or_push cs c d (length cs) refl

    each : (i : ℕ) (d : Raw) → i < length cs + 1 → tree_at (ts ++ u ∷ []) i ≡ step (ts ++ u ∷ []) i (get_or (cs ++ c ∷ []) i d)
    each i d h = elim (cases_lt i (length cs)) [
      | inl l ↦ sym (below i l) ∙ s.each i d l ∙ step-same ts (ts ++ u ∷ []) (length cs) below i (get_or cs i d) (s.within i d l) (omega arith)
          ∙ ap (step (ts ++ u ∷ []) i) (sym (get_or_append_left cs (c ∷ []) d i l))
      | inr g ↦ let e : i ≡ length cs = omega arith in
          rw (e, last d) (get_or_push ts u (var (length cs)) (length cs) s.len ∙ step-same ts (ts ++ u ∷ []) (length cs) below (length cs) c w (omega arith))
    ]

    within : (i : ℕ) (d : Raw) → i < length cs + 1 → Within (length cs + 1) i (get_or (cs ++ c ∷ []) i d)
    within i d h = elim (cases_lt i (length cs)) [
      | inl l ↦ rw (get_or_append_left cs (c ∷ []) d i l) (Within-more (length cs) (length cs + 1) i (get_or cs i d) (omega arith) (s.within i d l))
      | inr g ↦ let e : i ≡ length cs = omega arith in rw (e, last d) (Within-more (length cs) (length cs + 1) (length cs) c (omega arith) w)
    ]

-- the first n cells, if they lead to each other only
pub Stand-cut : (cs : List Raw) (ts : List Tree) (n : ℕ) → Stand cs ts → n ≤ length cs → Closed n cs → Stand (take n cs) (take n ts)
Stand-cut cs ts n s h k = record {
  len = length-take-le n ts (omega (arith, s.len)) ∙ sym cut;
  each = λ i d l. each i d (omega (arith, cut));
  within = λ i d l. subst (λ m. Within m i (get_or (take n cs) i d)) (sym cut) (within i d (omega (arith, cut)));
}
  where
    cut : length (take n cs) ≡ n
    cut = length-take-le n cs h

    below : (i : ℕ) → i < n → tree_at ts i ≡ tree_at (take n ts) i
    below i l = sym (get_or-take n ts i (var i) l)

    each : (i : ℕ) (d : Raw) → i < n → tree_at (take n ts) i ≡ step (take n ts) i (get_or (take n cs) i d)
    each i d l =
        sym (below i l) ∙ s.each i d (omega arith) ∙ step-same ts (take n ts) n below i (get_or cs i d) (k i d l) (omega arith)
        ∙ ap (step (take n ts) i) (sym (get_or-take n cs i d l))

    within : (i : ℕ) (d : Raw) → i < n → Within n i (get_or (take n cs) i d)
    within i d l = rw (get_or-take n cs i d l) (k i d l)

pub one-other : (x : ℕ) (t : Tree) (y : ℕ) → (x ≡ y → ⊥) → value (one x t) y ≡ var y
one-other x t y n = go (x == y) refl
  where
    go : (b : Bool) → (x == y) ≡ b → value (one x t) y ≡ var y
    go true e = absurd (n (same_var x y e))
    go false e = rw e refl

-- an unbound place with a cell that stands for a tree without it
pub Stand-bind : (cs : List Raw) (ts : List Tree) (x : ℕ) (c : Raw) → Stand cs ts → x < length cs → ((d : Raw) → get_or cs x d ≡ Free) → Within (length cs) x c → (c ≡ Free → ⊥)
    → occurs x (step ts x c) ≡ false → Stand (set cs x c) (map (instance (value (one x (step ts x c)))) ts)
Stand-bind cs ts x c s h free w bound o = record {
  len = length-map ts (instance f) ∙ s.len ∙ sym (length-set cs x c);
  each = λ i d l. each i d (omega (arith, length-set cs x c));
  within = λ i d l. subst (λ n. Within n i (get_or (set cs x c) i d)) (sym (length-set cs x c)) (within i d (omega (arith, length-set cs x c)));
}
  where
    t : Tree
    t = step ts x c

    f : ℕ → Tree
    f = value (one x t)

    at : (i : ℕ) → i < length cs → tree_at (map (instance f) ts) i ≡ instance f (tree_at ts i)
    at i l = get_or-map (instance f) ts i (var i) (var i) (omega (arith, s.len))

    each : (i : ℕ) (d : Raw) → i < length cs → tree_at (map (instance f) ts) i ≡ step (map (instance f) ts) i (get_or (set cs x c) i d)
    each i d l = elim (cases_eq i x) [
      | inl e ↦ rw (e, get_or-set_same cs x c d h)
          (at x h ∙ ap (instance f) (s.each x d h ∙ ap (step ts x) (free d)) ∙ one_here x t ∙ sym (one_absent x t t o)
          ∙ sym (step-map f ts x c (subst (λ n. Within n x c) (sym s.len) w) (omega (arith, s.len)) (λ e. absurd (bound e))))
      | inr n ↦ rw (get_or-set_other cs x i c d n)
          (at i l ∙ ap (instance f) (s.each i d l)
          ∙ sym (step-map f ts i (get_or cs i d) (subst (λ m. Within m i (get_or cs i d)) (sym s.len) (s.within i d l)) (omega (arith, s.len)) (λ e. one-other x t i (λ p. n (sym p)))))
    ]

    within : (i : ℕ) (d : Raw) → i < length cs → Within (length cs) i (get_or (set cs x c) i d)
    within i d l = elim (cases_eq i x) [
      | inl e ↦ rw (e, get_or-set_same cs x c d h) w
      | inr n ↦ rw (get_or-set_other cs x i c d n) (s.within i d l)
    ]

-- a place whose tree is a variable leads down to it
pub Stand-down : (cs : List Raw) (ts : List Tree) → Stand cs ts → (n i x : ℕ) (d : Raw) → i < n → i < length cs → tree_at ts i ≡ var x → (x ≤ i) × (x ≡ i → get_or cs i d ≡ Free)
Stand-down cs ts s zero i x d l h e = absurd (omega arith)
Stand-down cs ts s (suc n) i x d l h e = go (λ j y l k r. Stand-down cs ts s n j y d l k r) (get_or cs i d) refl (sym (s.each i d h) ∙ e)
  where
    go : ((j y : ℕ) → j < n → j < length cs → tree_at ts j ≡ var y → (y ≤ j) × (y ≡ j → get_or cs j d ≡ Free)) → (c : Raw) → get_or cs i d ≡ c → step ts i (get_or cs i d) ≡ var x → (x ≤ i) × (x ≡ i → get_or cs i d ≡ Free)
    go ih Free p q = let r : step ts i Free ≡ var x = rw p at q in let k : i ≡ x = cc in (omega arith, λ y. p)
    go ih (Same j) p q =
        let r : tree_at ts j ≡ var x = rw p at q in
        let w : Within (length cs) i (Same j) = subst (λ c. Within (length cs) i c) p (s.within i d h) in
        let k = ih j x (omega arith) (omega arith) r in
        (omega arith, λ y. absurd (omega arith))
    go ih (Int z) p q = let r : step ts i (Int z) ≡ var x = rw p at q in cc
    go ih (Atom a) p q = let r : step ts i (Atom a) ≡ var x = rw p at q in cc
    go ih (Node a b m) p q = let r : step ts i (Node a b m) ≡ var x = rw p at q in cc

pub Stand-free : (cs : List Raw) (ts : List Tree) (i : ℕ) (d : Raw) → Stand cs ts → i < length cs → tree_at ts i ≡ var i → get_or cs i d ≡ Free
Stand-free cs ts i d s h e = (Stand-down cs ts s (i + 1) i i d (omega arith) h e).1 refl
