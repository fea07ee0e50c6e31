-- Goals that are met by their answers one after another.
use Rattle.std.proofs.Common.{◌≡◌, ℕ, zero, suc, ◌+◌, ◌<◌, ◌≤◌, false, List, [], ◌∷◌, length, slice_get, Some, inl, inr, refl, sym, ap, ◌∙◌, subst, arith}
use Rattle.std.proofs.lemmas.Bool.{cases_lt}
use Rattle.ap_group.specs.Meets.{MeetAll, IsInstance, AreInside}
use Rattle.ap_term.specs.Tree.{Tree, Trees}
use Rattle.ap_cells.specs.declared.cells.Raw.{Raw}
use Rattle.ap_cells.specs.Walks.{Each}
use Rattle.ap_match.specs.Fits.{Fits, Agree, Becomes, Answered}
use Rattle.ap_match.proofs.Matches.{Becomes-asked}
use Rattle.ap_group.specs.Groups.{Pushed}
use Rattle.ap_rejoin.proofs.Fitting.{tuple-agree, still-inside}

-- the first n goals are met
abbrev pub MeetFirst : List Pushed → List Trees → ℕ → (ℕ → Tree) → Type 0
MeetFirst ps ts n k = (j : ℕ) (p : Pushed) (t : Trees) → j < n → slice_get ps j ≡ Some p → slice_get ts j ≡ Some t → IsInstance p.arguments t k

pub same-count : (k : ℕ → Tree) (ps : List Pushed) (ts : List Trees) → MeetAll ps ts k → length ps ≡ length ts
same-count k [] [] m = refl
same-count k [] (t ∷ ts) m = absurd m
same-count k (p ∷ ps) [] m = absurd m
same-count k (p ∷ ps) (t ∷ ts) m = ap suc (same-count k ps ts m.1)

each-of : (k : ℕ → Tree) (ps : List Pushed) (ts : List Trees) → MeetAll ps ts k → (n : ℕ) → MeetFirst ps ts n k
each-of k [] [] m n j p t l e f = cc
each-of k [] (t ∷ ts) m n j p u l e f = absurd m
each-of k (p ∷ ps) [] m n j q t l e f = absurd m
each-of k (p ∷ ps) (t ∷ ts) m n zero q u l e f =
    let a : p ≡ q = cc in
    let b : t ≡ u = cc in
    subst (λ r. IsInstance r.arguments u k) a (subst (λ v. IsInstance p.arguments v k) b m.0)
each-of k (p ∷ ps) (t ∷ ts) m n (suc j) q u l e f = each-of k ps ts m.1 (suc j) j q u (omega arith) e f

all-of : (k : ℕ → Tree) (ps : List Pushed) (ts : List Trees) → length ps ≡ length ts → MeetFirst ps ts (length ts) k → MeetAll ps ts k
all-of k [] [] e m = tt
all-of k [] (t ∷ ts) e m = absurd (omega arith)
all-of k (p ∷ ps) [] e m = absurd (omega arith)
all-of k (p ∷ ps) (t ∷ ts) e m = (m 0 p t (omega arith) refl refl, all-of k ps ts (omega arith) (λ j q u l f g. m (suc j) q u (omega arith) f g))

inside-at : (n : ℕ) (ps : List Pushed) (j : ℕ) (p : Pushed) → AreInside n ps → slice_get ps j ≡ Some p → Each (λ r. r < n) p.arguments
inside-at n [] j p h e = cc
inside-at n (q ∷ ps) zero p h e = let f : q ≡ p = cc in subst (λ r. Each (λ i. i < n) r.arguments) f h.0
inside-at n (q ∷ ps) (suc j) p h e = inside-at n ps j p h.1 e

-- maps that agree on the places
agreed : (n : ℕ) (k l : ℕ → Tree) → Agree n k l → (rs : List ℕ) → Each (λ r. r < n) rs → (t : Trees) → IsInstance rs t k → IsInstance rs t l
agreed n k l a rs h t i = (i.0, sym (tuple-agree n k l a rs h) ∙ i.1)

pub none-met : (cs : List Raw) (ps : List Pushed) (ts : List Trees) → Becomes cs cs (MeetFirst ps ts 0) (λ k. Unit {0})
none-met cs ps ts = record {
  longer = omega arith;
  only = λ k h. (h, (λ j p t l e f. absurd (omega arith)), tt);
  each = λ k h e. (k, (λ i l. refl), h);
}

module _ (old mid new : List Raw) (ps : List Pushed) (ts : List Trees) (i : ℕ) (p : Pushed) (t : Trees) (goal : slice_get ps i ≡ Some p) (answer : slice_get ts i ≡ Some t) (inside : AreInside (length old) ps) (so : Becomes old mid (MeetFirst ps ts i) (λ k. Unit {0})) where
  there : (k m : ℕ → Tree) → Agree (length old) k m → IsInstance p.arguments t k → IsInstance p.arguments t m
  there k m a e = agreed (length old) k m a p.arguments (inside-at (length old) ps i p inside goal) t e

  pub more-met : Becomes mid new (IsInstance p.arguments t) (λ k. Unit {0}) → Becomes old new (MeetFirst ps ts (i + 1)) (λ k. Unit {0})
  more-met b = record {
    longer = omega (arith, so.longer, b.longer);
    only = λ k z.
        let c = b.only k z in
        let d = so.only k c.0 in
        (d.0, (λ j q u l e f. elim (cases_lt j i) [ inl h ↦ d.1 j q u h e f | inr h ↦ last k c.1 j q u (omega arith) e f ]), tt);
    each = λ k z e.
        let c = so.each k z (λ j q u l f g. e j q u (omega arith) f g) in
        let d = b.each c.0 c.2 (there k c.0 c.1 (e i p t (omega arith) goal answer)) in
        (d.0, (λ x w. c.1 x w ∙ d.1 x (omega (arith, so.longer))), d.2);
  }
    where
      last : (k : ℕ → Tree) → IsInstance p.arguments t k → (j : ℕ) (q : Pushed) (u : Trees) → j ≡ i → slice_get ps j ≡ Some q → slice_get ts j ≡ Some u → IsInstance q.arguments u k
      last k h j q u e f g =
          let s : Some p ≡ Some q = sym goal ∙ ap (slice_get ps) (sym e) ∙ f in
          let r : Some t ≡ Some u = sym answer ∙ ap (slice_get ts) (sym e) ∙ g in
          let a : p ≡ q = cc in
          let b : t ≡ u = cc in
          subst (λ v. IsInstance v.arguments u k) a (subst (λ v. IsInstance p.arguments v k) b h)

  pub not-met : ((k : ℕ → Tree) → Fits mid k → IsInstance p.arguments t k → ⊥) → Answered old new (MeetAll ps ts) false
  not-met b k z m =
      let all = each-of k ps ts m (i + 1) in
      let c = so.each k z (λ j q u l f g. all j q u (omega arith) f g) in
      b c.0 c.2 (there k c.0 c.1 (all i p t (omega arith) goal answer))

pub all-met : (old new : List Raw) (ps : List Pushed) (ts : List Trees) (n : ℕ) → length ps ≡ length ts → n ≡ length ts → Becomes old new (MeetFirst ps ts n) (λ k. Unit {0}) → Becomes old new (MeetAll ps ts) (λ k. Unit {0})
all-met old new ps ts n e f b =
    Becomes-asked old new (MeetFirst ps ts (length ts)) (MeetAll ps ts) (λ k. Unit {0}) (λ k h m. all-of k ps ts e m) (λ k h m. each-of k ps ts m (length ts))
    (subst (λ m. Becomes old new (MeetFirst ps ts m) (λ k. Unit {0})) f b)

-- goals that are still inside of more places
pub inside-more : (n m : ℕ) → n ≤ m → (ps : List Pushed) (i : ℕ) (p : Pushed) → AreInside n ps → slice_get ps i ≡ Some p → Each (λ r. r < m) p.arguments
inside-more n m l ps i p h e = still-inside n m l p.arguments (inside-at n ps i p h e)
