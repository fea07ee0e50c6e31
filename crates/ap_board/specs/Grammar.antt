-- What a pad's history may be, written down round by round.
use Rattle.std.specs.Prelude.{◌≡◌, ◌≢◌, ℕ, zero, suc, ◌<◌, List, [], ◌∷◌, ◌++◌}
use Rattle.ap_board.specs.declared.view.Kind.{Kind}
use Rattle.ap_board.specs.declared.view.Kind.TheVariants.{Open, Offer, Take, Reclaim, Stop, Finish, Look, Collect}
use Rattle.ap_board.specs.declared.view.Cause.{Cause}
use Rattle.ap_board.specs.declared.view.Cause.TheVariants.{Asked}
use Rattle.ap_board.specs.History.{Entry}

-- a round that ended: its parcel was taken back; or a seat took it, was asked to stop so many times, and finished it
pub data Round (P O : Type 0) : Type 0 where
  withdrawn : P → Round P O
  done : P → ℕ → ℕ → O → Round P O

-- the last round, which may break off anywhere: nothing was offered; offered; with a taker, and so many stops; finished by it
pub data Last (P O : Type 0) : Type 0 where
  none_yet : Last P O
  sent : P → Last P O
  running : P → ℕ → ℕ → Last P O
  ended : P → ℕ → ℕ → O → Last P O

-- a call of a history: its seat, its round and its kind
abbrev pub Deed : Type 0 → Type 0 → Type 0
Deed P O = ℕ × ℕ × Kind P O

module _ {P O : Type 0} where
  -- a call before others; looks and opens are left out
  abbrev pub told : ℕ → ℕ → Kind P O → List (Deed P O) → List (Deed P O)
  told id q Open ds = ds
  told id q (Look w) ds = ds
  told id q k ds = (id, q, k) ∷ ds

  abbrev pub plain : List (Entry P O) → List (Deed P O)
  plain [] = []
  plain (e ∷ es) = told e.0 e.1.round e.1.kind (plain es)

  module _ (owner : ℕ) where
    abbrev pub stops : ℕ → ℕ → List (Deed P O)
    stops q zero = []
    stops q (suc n) = (owner, q, Stop) ∷ stops q n

    abbrev pub of_round : ℕ → Round P O → List (Deed P O)
    of_round q (withdrawn x) = (owner, q, Offer x) ∷ (owner, q, Reclaim) ∷ []
    of_round q (done x t n y) = (owner, q, Offer x) ∷ (t, q, Take x) ∷ (stops q n ++ (t, q, Finish y) ∷ (owner, q, Collect y) ∷ [])

    abbrev pub of_last : ℕ → Last P O → List (Deed P O)
    of_last q none_yet = []
    of_last q (sent x) = (owner, q, Offer x) ∷ []
    of_last q (running x t n) = (owner, q, Offer x) ∷ (t, q, Take x) ∷ stops q n
    of_last q (ended x t n y) = (owner, q, Offer x) ∷ (t, q, Take x) ∷ (stops q n ++ (t, q, Finish y) ∷ [])

    -- the rounds from q on, one after another, and the last one
    abbrev pub written : ℕ → List (Round P O) → Last P O → List (Deed P O)
    written q [] l = of_last q l
    written q (r ∷ rs) l = of_round q r ++ written (suc q) rs l

    module _ (fits : P → O → Type 0) (cause : O → Cause) where
      -- the taker is another seat, and its outcome fits; one that says it was asked to stop was asked
      abbrev pub IsFair : P → ℕ → ℕ → O → Type 0
      IsFair x t n y = (t ≢ owner) × fits x y × (cause y ≡ Asked → 0 < n)

      abbrev pub FairRound : Round P O → Type 0
      FairRound (withdrawn x) = Unit {0}
      FairRound (done x t n y) = IsFair x t n y

      abbrev pub FairRounds : List (Round P O) → Type 0
      FairRounds [] = Unit {0}
      FairRounds (r ∷ rs) = FairRound r × FairRounds rs

      abbrev pub FairLast : Last P O → Type 0
      FairLast none_yet = Unit {0}
      FairLast (sent x) = Unit {0}
      FairLast (running x t n) = t ≢ owner
      FairLast (ended x t n y) = IsFair x t n y

      -- the history is that of fair rounds, from 0 on
      abbrev pub IsWritten : List (Entry P O) → Type 0
      IsWritten h = (rs : List (Round P O)) × (l : Last P O) × FairRounds rs × FairLast l × (plain h ≡ written 0 rs l)
