-- What a view shows for an outcome, and what looks add to it.
use Rattle.std.specs.Prelude.{◌≡◌, ◌≢◌, ℕ, ◌/◌, Bool, true, List, [], ◌∷◌}
use Rattle.ap_board.specs.declared.view.Kind.TheVariants.{Look}
use Rattle.ap_board.specs.declared.view.Cause.{Cause}
use Rattle.ap_board.specs.declared.view.Cause.TheVariants.{Free, Asked, Elsewhere}
use Rattle.ap_board.specs.declared.view.View.{View}
use Rattle.ap_board.specs.History.{has}
use Rattle.ap_board.specs.Rule.{role, logged}

module _ {P O : Type 0} where
  -- what the taker's view shows for an outcome of the ticket that it holds on the pad p, having been asked to stop or not
  abbrev pub HasCause : Cause → View P O → ℕ → Bool → Type 0
  HasCause Free v p b = Unit {0}
  HasCause Asked v p b = b ≡ true
  HasCause Elsewhere v p b = (z : ℕ) × (r : ℕ) × (y : P) × (z ≢ p) × (role v z ≡ has r y true)

  -- a look that found this word, or an exchange that failed
  abbrev pub noting : View P O → ℕ → ℕ → View P O
  noting v p n = logged v p (n / 8) (Look n)

  -- the view after looks that found these words, in their order
  abbrev pub noting_all : View P O → ℕ → List ℕ → View P O
  noting_all v p [] = v
  noting_all v p (n ∷ ns) = noting_all (noting v p n) p ns
