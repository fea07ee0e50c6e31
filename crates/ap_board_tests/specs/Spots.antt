-- What a player remembers of each pad, beside its seat's view.
use Rattle.std.specs.Prelude.{◌≡◌, ℕ, ◌+◌, ◌*◌, ◌≤◌, Bool, List, Some, slice_get}
use Rattle.ap_board.specs.declared.view.Call.{Call}
use Rattle.ap_board.specs.declared.view.View.{View}
use Rattle.ap_board.specs.History.{on, nothing, out, has, role_of, last_of}
use Rattle.ap_board_tests.specs.declared.spot.Spot.{Spot}
use Rattle.ap_board_tests.specs.declared.spot.Spot.TheVariants.{Nothing, Sent, Gone, Has}

module _ {P O : Type 0} where
  -- what is remembered of a pad is so, by the seat's calls on it
  abbrev pub At : Spot → List (Call P O) → Type 0
  At Nothing cs = Unit {0}
  At (Sent q) cs = (x : P) × (role_of nothing cs ≡ out q x)
  At (Gone q) cs = (q * 8 + 2 ≤ last_of 0 cs) × ((x : P) × (role_of nothing cs ≡ out q x))
  At (Has q) cs = (x : P) × (b : Bool) × (role_of nothing cs ≡ has q x b)

  abbrev pub AreSpots : List Spot → View P O → Type 0
  AreSpots spots v = (p : ℕ) (s : Spot) → slice_get spots p ≡ Some s → At s (on p v.calls)
