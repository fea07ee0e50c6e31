-- What a copied answer and equal places make of the maps that fit.
use Rattle.std.proofs.Common.{◌≡◌, ℕ, zero, suc, ◌+◌, ◌-◌, ◌<◌, ◌≤◌, nat_lt, Bool, true, false, if◌then◌else◌, List, [], ◌∷◌, length, get_or, take, inl, inr, refl, sym, ap, ap₂, ◌∙◌, subst, arith}
use Rattle.std.proofs.lemmas.Bool.{cases_lt, lt-ltb, le-ltb}
use Rattle.std.proofs.lemmas.List.{get_or-take, take_all}
use Rattle.ap_group.specs.Meets.{IsInstance}
use Rattle.ap_rejoin.specs.Meets.{AreEqual}
use Rattle.ap_term.specs.Tuples.{tuple_under}
use Rattle.ap_term.proofs.TreeLists.{count_trees-instance_all, first-same, rest-same, count-under}
use Rattle.ap_term.specs.Tree.{Tree, Trees, var, more, count_trees}
use Rattle.ap_term.specs.Substitution.{instance, instance_all, shift}
use Rattle.ap_term.proofs.Copies.{instance_all_twice}
use Rattle.ap_term.proofs.Solutions.{instance_all_agree}
use Rattle.ap_term.proofs.Locals.{instance-Local}
use Rattle.ap_cells.specs.declared.cells.Raw.{Raw}
use Rattle.ap_cells.specs.Trees.{tree_at, trees, span}
use Rattle.ap_cells.specs.Store.{IsStore}
use Rattle.ap_cells.specs.Walks.{Each}
use Rattle.ap_cells.proofs.Rounds.{trees-length}
use Rattle.ap_cells.proofs.Walks.{count-span}
use Rattle.ap_instr.specs.Runs.{spread}
use Rattle.ap_match.specs.Fits.{Fits, Agree, Becomes, Answered}
use Rattle.ap_match.proofs.Inside.{inside}
use Rattle.ap_match.proofs.Matches.{Becomes-asked}

-- ---- tuples

pub Each-at : (n : ℕ) (rs : List ℕ) → Each (λ r. r < n) rs → (i : ℕ) → i < length rs → get_or rs i 0 < n
Each-at n [] h i l = absurd (omega arith)
Each-at n (r ∷ rs) h zero l = h.0
Each-at n (r ∷ rs) h (suc i) l = Each-at n rs h.1 i (omega arith)

pub tuple-agree : (n : ℕ) (k l : ℕ → Tree) → Agree n k l → (rs : List ℕ) → Each (λ r. r < n) rs → tuple_under k rs ≡ tuple_under l rs
tuple-agree n k l a [] h = refl
tuple-agree n k l a (r ∷ rs) h = ap₂ more (a r h.0) (tuple-agree n k l a rs h.1)

pub still-inside : (n m : ℕ) → n ≤ m → (rs : List ℕ) → Each (λ r. r < n) rs → Each (λ r. r < m) rs
still-inside n m l [] h = tt
still-inside n m l (r ∷ rs) h = (omega (arith, h.0), still-inside n m l rs h.1)

-- a span that is an instance has as many terms
pub counted : (us : List Tree) (p n : ℕ) (f : ℕ → Tree) (ts : Trees) → span us p n ≡ instance_all f ts → n ≡ count_trees ts
counted us p n f ts e = sym (count-span us p n) ∙ ap count_trees e ∙ count_trees-instance_all f ts

-- an answer of another number of terms is met by no map
pub other-count : (cs : List Raw) (rs : List ℕ) (ts : Trees) → (length rs ≡ count_trees ts → ⊥) → Answered cs cs (IsInstance rs ts) false
other-count cs rs ts ne k f i = ne (sym (count-under k rs) ∙ ap count_trees i.1 ∙ count_trees-instance_all i.0 ts)

-- ---- an answer behind the cells

pub grown : (old new : List Raw) → take (length old) (trees new) ≡ trees old → length old ≤ length new
grown old new e = elim (cases_lt (length new) (length old)) [
  | inl b ↦
      let q : length (trees new) ≡ length (trees old) = ap length (sym (take_all (length old) (trees new) (omega (arith, trees-length new))) ∙ e) in
      absurd (omega (arith, trees-length old, trees-length new))
  | inr b ↦ b
]

-- the cells' variables as before, and those of the answer by h
abbrev parted : ℕ → (ℕ → Tree) → (ℕ → Tree) → ℕ → Tree
parted n f h x = if nat_lt x n then f x else h (x - n)

parted-old : (n : ℕ) (f h : ℕ → Tree) (x : ℕ) → x < n → parted n f h x ≡ f x
parted-old n f h x l = ap (λ b. if b then f x else h (x - n)) (lt-ltb x n l)

parted-new : (n : ℕ) (f h : ℕ → Tree) (x : ℕ) → parted n f h (x + n) ≡ h x
parted-new n f h x =
    let e : nat_lt (x + n) n ≡ false = le-ltb (x + n) n (omega arith) in
    let q : (x + n) - n ≡ x = omega arith in
    ap (λ b. if b then f (x + n) else h ((x + n) - n)) e ∙ ap h q

span-fits : (cs : List Raw) (k : ℕ → Tree) (h : Fits cs k) (p m : ℕ) → p + m ≤ length cs → spread k p m ≡ instance_all h.0 (span (trees cs) p m)
span-fits cs k h p zero w = refl
span-fits cs k h p (suc m) w = ap₂ more (h.1 p (omega arith)) (span-fits cs k h (p + 1) m (omega arith))

module _ (old new : List Raw) (trail : List ℕ) (store : IsStore old trail) (first n : ℕ) (ts : Trees) (before : take (length old) (trees new) ≡ trees old) (tuple : span (trees new) first n ≡ instance_all (shift (length old)) ts) (ends : first + n ≡ length new) where
  as-before : (i : ℕ) → i < length old → tree_at (trees new) i ≡ tree_at (trees old) i
  as-before i l = sym (get_or-take (length old) (trees new) i (var i) l) ∙ ap (λ us. tree_at us i) before

  copied-only : (k : ℕ → Tree) → Fits new k → Fits old k × (h : ℕ → Tree) × (spread k first n ≡ instance_all h ts)
  copied-only k z = (
    (z.0, λ i l. z.1 i (omega (arith, grown old new before)) ∙ ap (instance z.0) (as-before i l)),
    (λ x. instance z.0 (shift (length old) x)),
    span-fits new k z first n (omega arith) ∙ ap (instance_all z.0) tuple ∙ instance_all_twice (shift (length old)) z.0 ts,
  )

  -- whatever the answer's variables are to be
  copied-each : (k : ℕ → Tree) → Fits old k → (h : ℕ → Tree) → (l : ℕ → Tree) × Agree (length old) k l × Fits new l × (spread l first n ≡ instance_all h ts)
  copied-each k z h = (l, agree, fits, last)
    where
      g : ℕ → Tree
      g = parted (length old) z.0 h

      l : ℕ → Tree
      l i = instance g (tree_at (trees new) i)

      fits : Fits new l
      fits = (g, λ i b. refl)

      agree : Agree (length old) k l
      agree i b =
          z.1 i b
          ∙ sym (instance-Local (λ x. x < length old) g z.0 (λ x c. parted-old (length old) z.0 h x c) (tree_at (trees old) i) (inside old trail store i b))
          ∙ ap (instance g) (sym (as-before i b))

      last : spread l first n ≡ instance_all h ts
      last =
          span-fits new l fits first n (omega arith)
          ∙ ap (instance_all g) tuple
          ∙ instance_all_twice (shift (length old)) g ts
          ∙ instance_all_agree (λ x. instance g (shift (length old) x)) h ts (λ x o. parted-new (length old) z.0 h x)

  -- places whose terms were made equal to the answer's
  module _ (last : List Raw) (rs : List ℕ) (many : length rs ≡ n) (within : Each (λ r. r < length old) rs) where
    equal : (k : ℕ → Tree) (h : ℕ → Tree) (z : Fits old k) → tuple_under k rs ≡ instance_all h ts → tuple_under (copied-each k z h).0 rs ≡ spread (copied-each k z h).0 first (length rs)
    equal k h z e =
        let c = copied-each k z h in
        sym (tuple-agree (length old) k c.0 c.1 rs within) ∙ e ∙ sym c.3 ∙ ap (spread c.0 first) (sym many)

    met : Becomes new last (λ k. tuple_under k rs ≡ spread k first (length rs)) (λ k. Unit {0}) → Becomes old last (IsInstance rs ts) (λ k. Unit {0})
    met b = record {
      longer = let a = grown old new before in omega (arith, b.longer);
      only = λ k z.
          let p = b.only k z in
          let q = copied-only k p.0 in
          (q.0, (q.1, p.1 ∙ ap (spread k first) many ∙ q.2), tt);
      each = λ k z i.
          let c = copied-each k z i.0 in
          let d = b.each c.0 c.2 (equal k i.0 z i.1) in
          (d.0, (λ x w. c.1 x w ∙ d.1 x (omega (arith, grown old new before))), d.2);
    }

    pub meets : (r : Bool) → Answered new last (λ k. tuple_under k rs ≡ spread k first (length rs)) r → Answered old last (IsInstance rs ts) r
    meets true b = met b
    meets false b = λ k z i. let c = copied-each k z i.0 in b c.0 c.2 (equal k i.0 z i.1)

-- ---- places that are made equal one by one

as-tuples : (k : ℕ → Tree) (rs : List ℕ) (p : ℕ) → AreEqual rs p (length rs) k → tuple_under k rs ≡ spread k p (length rs)
as-tuples k [] p h = refl
as-tuples k (r ∷ rs) p h =
    let here : p + 0 ≡ p = omega arith in
    ap₂ more (h 0 (omega arith) ∙ ap k here) (as-tuples k rs (p + 1) (λ j l. let e : p + suc j ≡ p + 1 + j = omega arith in h (suc j) (omega arith) ∙ ap k e))

pub one-by-one : (k : ℕ → Tree) (rs : List ℕ) (p : ℕ) → tuple_under k rs ≡ spread k p (length rs) → AreEqual rs p (length rs) k
one-by-one k [] p e j l = absurd (omega arith)
one-by-one k (r ∷ rs) p e zero l = let here : p ≡ p + 0 = omega arith in first-same e ∙ ap k here
one-by-one k (r ∷ rs) p e (suc j) l = let q : p + 1 + j ≡ p + suc j = omega arith in one-by-one k rs (p + 1) (rest-same e) j (omega arith) ∙ ap k q

pub none-equal : (cs : List Raw) (rs : List ℕ) (p : ℕ) → Becomes cs cs (AreEqual rs p 0) (λ k. Unit {0})
none-equal cs rs p = record {
  longer = omega arith;
  only = λ k h. (h, (λ j l. absurd (omega arith)), tt);
  each = λ k h e. (k, (λ i l. refl), h);
}

module _ (old mid new : List Raw) (rs : List ℕ) (p i : ℕ) (within : Each (λ r. r < length old) rs) (behind : p + length rs ≤ length old) (l : i < length rs) (so : Becomes old mid (AreEqual rs p i) (λ k. Unit {0})) where
  -- where the first i are equal and another map has more cells, the next two are equal there if they are here
  next-there : (k m : ℕ → Tree) → Agree (length old) k m → k (get_or rs i 0) ≡ k (p + i) → m (get_or rs i 0) ≡ m (p + i)
  next-there k m a e = sym (a (get_or rs i 0) (Each-at (length old) rs within i l)) ∙ e ∙ a (p + i) (omega arith)

  pub one-more : Becomes mid new (λ k. k (get_or rs i 0) ≡ k (p + i)) (λ k. Unit {0}) → Becomes old new (AreEqual rs p (i + 1)) (λ k. Unit {0})
  one-more b = record {
    longer = omega (arith, so.longer, b.longer);
    only = λ k z.
        let c = b.only k z in
        let d = so.only k c.0 in
        (d.0, (λ j w. elim (cases_lt j i) [ inl q ↦ d.1 j q | inr q ↦ let e : i ≡ j = omega arith in ap (λ x. k (get_or rs x 0)) (sym e) ∙ c.1 ∙ ap (λ x. k (p + x)) e ]), tt);
    each = λ k z e.
        let c = so.each k z (λ j w. e j (omega arith)) in
        let d = b.each c.0 c.2 (next-there k c.0 c.1 (e i (omega arith))) in
        (d.0, (λ x w. c.1 x w ∙ d.1 x (omega (arith, so.longer))), d.2);
  }

  pub not-more : ((k : ℕ → Tree) → Fits mid k → k (get_or rs i 0) ≡ k (p + i) → ⊥) → (k : ℕ → Tree) → Fits old k → tuple_under k rs ≡ spread k p (length rs) → ⊥
  not-more b k z e =
      let all = one-by-one k rs p e in
      let c = so.each k z (λ j w. all j (omega arith)) in
      b c.0 c.2 (next-there k c.0 c.1 (all i l))

pub all-equal : (old new : List Raw) (rs : List ℕ) (p i : ℕ) → i ≡ length rs → Becomes old new (AreEqual rs p i) (λ k. Unit {0}) → Becomes old new (λ k. tuple_under k rs ≡ spread k p (length rs)) (λ k. Unit {0})
all-equal old new rs p i e b =
    Becomes-asked old new (AreEqual rs p (length rs)) (λ k. tuple_under k rs ≡ spread k p (length rs)) (λ k. Unit {0}) (λ k h. as-tuples k rs p) (λ k h. one-by-one k rs p) (subst (λ n. Becomes old new (AreEqual rs p n) (λ k. Unit {0})) e b)
