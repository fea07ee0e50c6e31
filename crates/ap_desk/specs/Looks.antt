-- What looks at the pads of tickets found.
use Rattle.std.specs.Prelude.{◌≡◌, ◌≢◌, ℕ, ◌+◌, ◌*◌, ◌/◌, ◌<◌, ◌⊎◌, List, [], ◌∷◌, length, slice_get, Option, Some, None}
use Rattle.ap_board.specs.declared.ticket.Ticket.{Ticket}
use Rattle.ap_board.specs.declared.view.View.{View}
use Rattle.ap_board.specs.Causes.{noting}

-- the word of a ticket whose taker was asked to stop
abbrev pub asked_word : Ticket → ℕ
asked_word t = t.round * 8 + 3

-- these words, found on the pads of the tickets in their order, don't ask any taker to stop
abbrev pub NoneAsked : List Ticket → List ℕ → Type 0
NoneAsked ts [] = Unit {0}
NoneAsked [] (n ∷ ns) = ⊥
NoneAsked (t ∷ ts) (n ∷ ns) = (n ≢ asked_word t) × NoneAsked ts ns

module _ {P O : Type 0} where
  -- the view after looks at the tickets' pads, in their order, that found these words
  abbrev pub noting_each : View P O → List Ticket → List ℕ → View P O
  noting_each v ts [] = v
  noting_each v [] (n ∷ ns) = v
  noting_each v (t ∷ ts) (n ∷ ns) = noting_each (noting v t.pad n) ts ns

  -- looks at the tickets' pads, the oldest first, found no taker asked to stop, or the one at this place first
  abbrev pub Looked : View P O → List Ticket → View P O → Option ℕ → Type 0
  Looked v ts w None = (ns : List ℕ) × (length ns ≡ length ts) × NoneAsked ts ns × (w ≡ noting_each v ts ns)
  Looked v ts w (Some i) = (ns : List ℕ) × (t : Ticket) × (length ns ≡ i) × (slice_get ts i ≡ Some t) × NoneAsked ts ns × (w ≡ noting (noting_each v ts ns) t.pad (asked_word t))

  -- the ticket may not be taken by this seat, or its offer wasn't found
  abbrev pub Missed : ℕ → View P O → Ticket → View P O → Type 0
  Missed slots v t w = (((t.pad < slots) × (t.pad / v.pads ≢ v.number) → ⊥) × (w ≡ v)) ⊎ ((n : ℕ) × (n ≢ t.round * 8 + 1) × (w ≡ noting v t.pad n))
