-- The seats of a new board.
use Rattle.std.specs.Prelude.{◌≡◌, ℕ, zero, suc, ◌+◌, List, [], ◌∷◌, ◌++◌, Option}
use Rattle.atomic_table.specs.Seated.{TableId}
use Rattle.atomic_table.specs.declared.shared.Seat.{Seat}
use Rattle.ap_board.specs.declared.view.Content.{Content}
use Rattle.ap_board.specs.declared.view.View.{View}
use Rattle.ap_board.specs.Rule.{view_of}
use Rattle.ap_board.specs.Seats.{seated}

-- how many seats the seat k has made, of so many: the first has made all
abbrev pub made_by : ℕ → ℕ → ℕ
made_by zero workers = workers
made_by (suc k) workers = 0

module _ {P O : Type 0} where
  -- the first n seats of a board for so many workers
  abbrev pub seats_of : TableId → ℕ → ℕ → ℕ → List (TableId × View P O)
  seats_of z workers pads zero = []
  seats_of z workers pads (suc n) = seats_of z workers pads n ++ (z, seated n pads (made_by n workers)) ∷ []

  -- places whose pads aren't open yet, of the seats from n on
  abbrev pub AreNext : TableId → ℕ → ℕ → List (Seat (Option (Content P O)) (View P O)) → Type 0
  AreNext z pads n [] = Unit {0}
  AreNext z pads n (s ∷ ss) = (s.table_id ≡ z) × (s.me ≡ (view_of n pads 0 [] [], [])) × AreNext z pads (suc n) ss
