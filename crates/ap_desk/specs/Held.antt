-- The goals that a seat has, of which a desk keeps the tickets.
use Rattle.std.specs.Prelude.{◌≡◌, ℕ, ◌<◌, ◌≤◌, Bool, true, List, slice_get, Option, Some, None}
use Rattle.ap_board.specs.declared.ticket.Ticket.{Ticket}
use Rattle.ap_board.specs.declared.view.View.{View}
use Rattle.ap_board.specs.declared.view.Cause.{Cause}
use Rattle.ap_board.specs.declared.view.Cause.TheVariants.{Free, Asked, Elsewhere}
use Rattle.ap_board.specs.History.{has}
use Rattle.ap_board.specs.Rule.{role}

-- their pads are pads of the board
abbrev pub AreBelow : ℕ → List Ticket → Type 0
AreBelow slots ts = (i : ℕ) (t : Ticket) → slice_get ts i ≡ Some t → t.pad < slots

module _ {P O : Type 0} where
  -- the seat has the goal of this ticket
  abbrev pub Holding : View P O → Ticket → Type 0
  Holding v t = (x : P) × (b : Bool) × (role v t.pad ≡ has t.round x b)

  -- these are the tickets of all goals that the seat has, on a pad each
  pub record AreHeld (v : View P O) (slots : ℕ) (ts : List Ticket) : Type 0 where
    pub below : AreBelow slots ts
    pub held : (i : ℕ) (t : Ticket) → slice_get ts i ≡ Some t → Holding v t
    pub apart : (i j : ℕ) (t u : Ticket) → slice_get ts i ≡ Some t → slice_get ts j ≡ Some u → t.pad ≡ u.pad → i ≡ j
    pub all : (p r : ℕ) (x : P) (b : Bool) → role v p ≡ has r x b → (i : ℕ) × (t : Ticket) × (slice_get ts i ≡ Some t) × (t.pad ≡ p)

  -- the goal at this place was found asked to stop
  abbrev pub WasAsked : View P O → List Ticket → ℕ → Type 0
  WasAsked v ts i = (t : Ticket) × (x : P) × (slice_get ts i ≡ Some t) × (role v t.pad ≡ has t.round x true)

  abbrev pub IsFound : View P O → List Ticket → Option ℕ → Type 0
  IsFound v ts None = Unit {0}
  IsFound v ts (Some i) = WasAsked v ts i

-- what must be asked to stop for an outcome of the goal at this place: it, or an older one
abbrev pub IsCauseAt : Cause → Option ℕ → ℕ → Type 0
IsCauseAt Free asked n = Unit {0}
IsCauseAt Asked asked n = asked ≡ Some n
IsCauseAt Elsewhere asked n = (i : ℕ) × (asked ≡ Some i) × (i < n)

-- a place, where it is below the count
abbrev pub KeptBelow : Option ℕ → ℕ → Option ℕ → Type 0
KeptBelow asked n None = (i : ℕ) → asked ≡ Some i → n ≤ i
KeptBelow asked n (Some i) = (asked ≡ Some i) × (i < n)
