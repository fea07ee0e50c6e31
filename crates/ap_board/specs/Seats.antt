-- What a seat keeps beside its view: the pads whose slots it holds, and the rounds of its own pads.
use Rattle.std.specs.Prelude.{◌≡◌, ◌≢◌, ℕ, zero, suc, ◌+◌, ◌*◌, ◌/◌, ◌<◌, ◌≤◌, ◌⊎◌, List, [], ◌∷◌, ◌++◌, length, slice_index, Option, None}
use Rattle.ap_board.specs.declared.view.Content.{Content}
use Rattle.ap_board.specs.declared.view.View.{View}
use Rattle.ap_board.specs.History.{Role, nothing, keeps, out, has}
use Rattle.ap_board.specs.declared.view.Call.{Call}
use Rattle.ap_board.specs.declared.view.Kind.TheVariants.{Open}
use Rattle.ap_board.specs.Rule.{role, view_of}

-- slots that are held, each empty
abbrev pub bare : {P O : Type 0} → List ℕ → List (ℕ × Option (Content P O))
bare [] = []
bare (p ∷ ps) = (p, None) ∷ bare ps

abbrev pub Among : ℕ → List ℕ → Type 0
Among p [] = ⊥
Among p (x ∷ xs) = (p ≡ x) ⊎ Among p xs

-- no number stands twice
abbrev pub Apart : List ℕ → Type 0
Apart [] = Unit {0}
Apart (x ∷ xs) = (Among x xs → ⊥) × Apart xs

module _ {P : Type 0} where
  abbrev pub IsHeld : Role P → Type 0
  IsHeld nothing = ⊥
  IsHeld (keeps r) = Unit {0}
  IsHeld (out r x) = ⊥
  IsHeld (has r x b) = Unit {0}

  -- one of the seat's own pads, in this round
  abbrev pub IsOwn : ℕ → Role P → Type 0
  IsOwn n nothing = ⊥
  IsOwn n (keeps r) = n ≡ r
  IsOwn n (out r x) = n ≡ r
  IsOwn n (has r x b) = ⊥

  abbrev pub IsForeign : Role P → Type 0
  IsForeign nothing = Unit {0}
  IsForeign (keeps r) = ⊥
  IsForeign (out r x) = ⊥
  IsForeign (has r x b) = Unit {0}

module _ {P O : Type 0} where
  -- the slots that the seat holds are those of `order`, and `rounds` are the rounds of its own pads from `first` on, of `total` pads
  pub record Holds (v : View P O) (order rounds : List ℕ) (first total : ℕ) : Type 0 where
    pub apart : Apart order
    pub below : (p : ℕ) → Among p order → p < total
    pub held : (p : ℕ) → IsHeld (role v p) → Among p order
    pub holds : (p : ℕ) → Among p order → IsHeld (role v p)
    pub own : (i : ℕ) → i < length rounds → IsOwn (slice_index rounds i) (role v (first + i))
    pub foreign : (p : ℕ) → (p < first) ⊎ (first + length rounds ≤ p) → IsForeign (role v p)
    pub within : first + length rounds ≤ total

  -- the same, of all pads that the view says are the seat's
  pub record IsSeat (v : View P O) (order rounds : List ℕ) (first total : ℕ) : Type 0 where
    pub slots : Holds v order rounds first total
    pub some_pads : 0 < v.pads
    pub starts : first ≡ v.number * v.pads
    pub count : length rounds ≡ v.pads

  -- the calls of a seat that has opened its pads, from `first` on
  abbrev pub opens : ℕ → ℕ → List (Call P O)
  opens first zero = []
  opens first (suc n) = opens first n ++ record { pad = first + n; round = 0; kind = Open } ∷ []

  -- the view of the seat n of a new board with `pads` pads for each seat, that has made so many seats
  abbrev pub seated : ℕ → ℕ → ℕ → View P O
  seated n pads made = view_of n pads made (opens (n * pads) pads) []

  -- what the seat n of a new board is to its own pads and to all others
  pub record IsNewSeat (pads n : ℕ) (v : View P O) : Type 0 where
    pub own : (p : ℕ) → p / pads ≡ n → role v p ≡ keeps 0
    pub foreign : (p : ℕ) → p / pads ≢ n → role v p ≡ nothing
