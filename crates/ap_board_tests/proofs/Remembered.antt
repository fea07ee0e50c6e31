-- What a player remembers stays so.
use Rattle.std.proofs.Common.{◌≡◌, ◌≢◌, ◌⊎◌, ⊎_elim, inl, inr, ℕ, zero, suc, ◌+◌, ◌*◌, ◌/◌, ◌≤◌, Bool, true, false, List, [], ◌∷◌, length, length-set, set, refl, sym, ap, ◌∙◌, subst, arith}
use Rattle.std.specs.Prelude.{Some, slice_get, MatchBool}
use Rattle.std.proofs.lemmas.Option.{none-some, cond_some}
use mathlib.Core.Logic.{dite}
use native.Mathlib.Decide.{ℕ_discrete}
use Rattle.ap_board.specs.declared.view.Kind.{Kind}
use Rattle.ap_board.specs.declared.view.Kind.TheVariants.{Stop, Look}
use Rattle.ap_board.specs.declared.view.View.{View}
use Rattle.ap_board.specs.History.{on, Role, out, noted}
use Rattle.ap_board.specs.Rule.{logged, role, last_seen}
use Rattle.ap_board.specs.Causes.{noting}
use Rattle.ap_board.proofs.Keeps.{role_logged, last_logged, last_noting, on_other}
use Rattle.ap_board_tests.specs.declared.spot.Spot.{Spot}
use Rattle.ap_board_tests.specs.declared.spot.Spot.TheVariants.{Nothing, Sent, Gone, Has}
use Rattle.ap_board_tests.specs.Spots.{At, AreSpots}

there_or_here : (l : List Spot) (i j : ℕ) (a b : Spot) → slice_get (set l i a) j ≡ Some b → ((j ≡ i) × (a ≡ b)) ⊎ ((j ≢ i) × (slice_get l j ≡ Some b))
there_or_here [] i j a b e = absurd (none-some b e)
there_or_here (x ∷ xs) zero zero a b e = inl (refl, (cond_some true a b e).1)
there_or_here (x ∷ xs) zero (suc j) a b e = inr ((λ h. omega arith), e)
there_or_here (x ∷ xs) (suc i) zero a b e = inr ((λ h. omega arith), e)
there_or_here (x ∷ xs) (suc i) (suc j) a b e = ⊎_elim (λ t. inl (ap suc t.0, t.1)) (λ t. let n = t.0 in inr ((λ h. n (omega arith)), t.1)) (there_or_here xs i j a b e)

module _ {P O : Type 0} where
  pub placed : (spots : List Spot) (v : View P O) (p q : ℕ) (kind : Kind P O) (s : Spot) → AreSpots spots v → At s (on p (logged v p q kind).calls) → AreSpots (set spots p s) (logged v p q kind)
  placed spots v p q kind s k now z t e = ⊎_elim
      (λ (x : (z ≡ p) × (s ≡ t)). subst (λ (y : ℕ × Spot). At y.1 (on y.0 (logged v p q kind).calls)) (λ i. (sym x.0 i, x.1 i)) now)
      (λ (x : (z ≢ p) × (slice_get spots z ≡ Some t)). subst (At t) (sym (on_other v p q z kind (λ f. x.0 (sym f)))) (k z t x.1))
      (there_or_here spots p z s t e)

  noted_at : (s : Spot) (v : View P O) (p n : ℕ) → last_seen v p ≤ last_seen (noting v p n) p → At s (on p v.calls) → At s (on p (noting v p n).calls)
  noted_at Nothing v p n le a = tt
  noted_at (Sent q) v p n le a = (a.0, role_logged v p (n / 8) (Look n) ∙ ap (λ (t : Role P). noted t n) a.1)
  noted_at (Gone q) v p n le a = let l = a.0 in ((omega arith), (a.1.0, role_logged v p (n / 8) (Look n) ∙ ap (λ (t : Role P). noted t n) a.1.1))
  noted_at (Has q) v p n le a = (a.0, _, role_logged v p (n / 8) (Look n) ∙ ap (λ (t : Role P). noted t n) a.2)

  pub stayed : (spots : List Spot) (v : View P O) (p n : ℕ) → AreSpots spots v → last_seen v p ≤ last_seen (noting v p n) p → AreSpots spots (noting v p n)
  stayed spots v p n k le z t e = dite (ℕ_discrete z p)
      (λ is. subst (λ (y : ℕ). At t (on y (noting v p n).calls)) (sym is) (noted_at t v p n le (subst (λ (y : ℕ). At t (on y v.calls)) is (k z t e))))
      (λ ne. subst (At t) (sym (on_other v p (n / 8) z (Look n) (λ f. ne (sym f)))) (k z t e))

  -- what is remembered after a call on the pad p, of which it now remembers s; n is how many pads there are
  pub written : (spots : List Spot) (v w : View P O) (p q : ℕ) (kind : Kind P O) (s : Spot) (n m : ℕ) → AreSpots spots v × (length spots ≡ n) → w ≡ logged v p q kind → m ≡ n → At s (on p (logged v p q kind).calls) → AreSpots (set spots p s) w × (length (set spots p s) ≡ m)
  written spots v w p q kind s n m k e f now = (subst (AreSpots (set spots p s)) (sym e) (placed spots v p q kind s k.0 now), length-set spots p s ∙ k.1 ∙ sym f)

  pub looked : (spots : List Spot) (v w : View P O) (p n size m : ℕ) → AreSpots spots v × (length spots ≡ size) → w ≡ noting v p n → last_seen v p ≤ last_seen w p → m ≡ size → AreSpots spots w × (length spots ≡ m)
  looked spots v w p n size m k e le f = (subst (AreSpots spots) (sym e) (stayed spots v p n k.0 (subst (λ (u : View P O). last_seen v p ≤ last_seen u p) e le)), k.1 ∙ sym f)

  -- an offer that was seen taken
  pub still_gone : (v : View P O) (p q n : ℕ) (x : P) → role v p ≡ out q x → q * 8 + 2 ≤ n → At (Gone q) (on p (noting v p n).calls)
  still_gone v p q n x is low = let last : last_seen (noting v p n) p ≡ n = last_noting v p n in ((omega arith), (x, role_logged v p (n / 8) (Look n) ∙ ap (λ (t : Role P). noted t n) is))

  pub asked_stop : (v : View P O) (p q : ℕ) (x : P) → role v p ≡ out q x → At (Gone q) (on p (logged v p q Stop).calls)
  asked_stop v p q x is = let last : last_seen (logged v p q Stop) p ≡ q * 8 + 3 = last_logged v p q Stop in ((omega arith), (x, role_logged v p q Stop ∙ is))

  pub stop_either : (b : Bool) (spots : List Spot) (v w : View P O) (p q size m : ℕ) (x : P) → AreSpots spots v × (length spots ≡ size) → role v p ≡ out q x → m ≡ size → MatchBool b (w ≡ logged v p q Stop) (w ≡ noting v p (q * 8 + 4))
      → AreSpots (set spots p (Gone q)) w × (length (set spots p (Gone q)) ≡ m)
  stop_either true spots v w p q size m x k is f e = written spots v w p q Stop (Gone q) size m k e f (asked_stop v p q x is)
  stop_either false spots v w p q size m x k is f e = written spots v w p ((q * 8 + 4) / 8) (Look (q * 8 + 4)) (Gone q) size m k e f (still_gone v p q (q * 8 + 4) x is (omega arith))
