-- A row with one more at its end, with one taken out, or with one exchanged.
use Rattle.std.proofs.Common.{◌≡◌, ◌≢◌, ◌⊎◌, ⊎_elim, inl, inr, ℕ, zero, suc, ◌<◌, ◌≤◌, List, [], ◌∷◌, ◌++◌, length, slice_get, Some, refl, sym, ap, ◌∙◌, true, arith}
use Rattle.std.specs.Prelude.{slice_set}
use Rattle.std.specs.List.{remove}
use Rattle.std.proofs.lemmas.Option.{none-some, cond_some}

module _ {X : Type 0} where
  some_same : (t u : X) → Some t ≡ Some u → t ≡ u
  some_same t u e = (cond_some true t u e).1

  pub at_below : (ts : List X) (i : ℕ) (u : X) → slice_get ts i ≡ Some u → i < length ts
  at_below [] i u e = absurd (none-some u e)
  at_below (t ∷ ts) zero u e = omega arith
  at_below (t ∷ ts) (suc i) u e = let l = at_below ts i u e in omega (arith, l)

  pub at_longer : (ts : List X) (t : X) (i : ℕ) (u : X) → slice_get ts i ≡ Some u → slice_get (ts ++ t ∷ []) i ≡ Some u
  at_longer [] t i u e = absurd (none-some u e)
  at_longer (s ∷ ts) t zero u e = e
  at_longer (s ∷ ts) t (suc i) u e = at_longer ts t i u e

  pub at_last : (ts : List X) (t : X) → slice_get (ts ++ t ∷ []) (length ts) ≡ Some t
  at_last [] t = refl
  at_last (s ∷ ts) t = at_last ts t

  pub there_or_last : (ts : List X) (t : X) (i : ℕ) (u : X) → slice_get (ts ++ t ∷ []) i ≡ Some u → (slice_get ts i ≡ Some u) ⊎ ((i ≡ length ts) × (t ≡ u))
  there_or_last [] t zero u e = inr (refl, some_same t u e)
  there_or_last [] t (suc i) u e = absurd (none-some u e)
  there_or_last (s ∷ ts) t zero u e = inl e
  there_or_last (s ∷ ts) t (suc i) u e = ⊎_elim (λ a. inl a) (λ b. inr (ap suc b.0, b.1)) (there_or_last ts t i u e)

  pub same_at : (ts : List X) (i : ℕ) (t u : X) → slice_get ts i ≡ Some t → slice_get ts i ≡ Some u → t ≡ u
  same_at ts i t u a b = some_same t u (sym a ∙ b)

  -- what is left stood at its place, or at the next one
  pub before_or_after : (ts : List X) (k i : ℕ) (u : X) → slice_get (remove ts k) i ≡ Some u → ((i < k) × (slice_get ts i ≡ Some u)) ⊎ ((k ≤ i) × (slice_get ts (suc i) ≡ Some u))
  before_or_after [] zero i u e = absurd (none-some u e)
  before_or_after [] (suc k) i u e = absurd (none-some u e)
  before_or_after (t ∷ ts) zero i u e = inr (omega arith, e)
  before_or_after (t ∷ ts) (suc k) zero u e = inl (omega arith, e)
  before_or_after (t ∷ ts) (suc k) (suc i) u e = ⊎_elim (λ a. let l = a.0 in inl (omega (arith, l), a.1)) (λ b. let l = b.0 in inr (omega (arith, l), b.1)) (before_or_after ts k i u e)

  -- the place at which what is left stood
  pub stood_at : (ts : List X) (k i : ℕ) (u : X) → slice_get (remove ts k) i ≡ Some u → (j : ℕ) × (slice_get ts j ≡ Some u) × (j ≢ k) × (((i < k) × (j ≡ i)) ⊎ ((k ≤ i) × (j ≡ suc i)))
  stood_at ts k i u e = ⊎_elim (λ a. let l = a.0 in (i, a.1, (λ is. omega (arith, l, is)), inl (l, refl))) (λ b. let l = b.0 in (suc i, b.1, (λ is. omega (arith, l, is)), inr (l, refl))) (before_or_after ts k i u e)

  pub changed_or_other : (ts : List X) (k i : ℕ) (t u : X) → slice_get (slice_set ts k t) i ≡ Some u → ((i ≡ k) × (t ≡ u)) ⊎ (slice_get ts i ≡ Some u)
  changed_or_other [] zero i t u e = absurd (none-some u e)
  changed_or_other [] (suc k) i t u e = absurd (none-some u e)
  changed_or_other (s ∷ ts) zero zero t u e = inl (refl, some_same t u e)
  changed_or_other (s ∷ ts) zero (suc i) t u e = inr e
  changed_or_other (s ∷ ts) (suc k) zero t u e = inr e
  changed_or_other (s ∷ ts) (suc k) (suc i) t u e = ⊎_elim (λ a. inl (ap suc a.0, a.1)) (λ b. inr b) (changed_or_other ts k i t u e)
