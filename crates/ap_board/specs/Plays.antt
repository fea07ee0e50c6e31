-- What each step tells: of the step, the seat before, the number found (at a store, the number stored) and the seat after.
use Rattle.std.specs.Prelude.{◌≡◌, ◌≢◌, ℕ, ◌+◌, ◌*◌, ◌/◌, ◌<◌, ◌≤◌, ◌⊎◌, List, [], ◌∷◌, Option, Some, None}
use Rattle.atomic_table.specs.Table.{Me, Step, rest}
use Rattle.ap_board.specs.declared.view.Kind.{Kind}
use Rattle.ap_board.specs.declared.view.Kind.TheVariants.{Open, Offer, Take, Reclaim, Stop, Finish, Look, Collect}
use Rattle.ap_board.specs.declared.view.Content.{Content}
use Rattle.ap_board.specs.declared.view.Content.TheVariants.{Parcel, Outcome}
use Rattle.ap_board.specs.declared.view.View.{View}
use Rattle.ap_board.specs.History.{Role, nothing, out}
use Rattle.ap_board.specs.declared.view.Cause.{Cause}
use Rattle.ap_board.specs.Rule.{logged, role, last_seen, Recorded}
use Rattle.ap_board.specs.Causes.{noting}

module _ {P O : Type 0} where
  -- the word didn't fall
  abbrev pub Rises : View P O → ℕ → View P O → Type 0
  Rises v p w = last_seen v p ≤ last_seen w p

abbrev pub Seated : Type 0 → Type 0 → Type 0
Seated P O = Me (Option (Content P O)) (View P O)

module _ {P O : Type 0} where
  abbrev pub opened : Step (Option (Content P O)) → Seated P O → ℕ → Seated P O → Type 0
  opened st m n w = Rises m.0 st.word w.0 × (w ≡ (logged m.0 st.word 0 Open, (st.word, None) ∷ m.1))

  abbrev pub offers : Step (Option (Content P O)) → Seated P O → ℕ → Seated P O → Type 0
  offers st m n w = Rises m.0 st.word w.0 × ((q : ℕ) × (x : P) × (st.first ≡ q * 8 + 1) × (m.1 ≡ (st.word, Some (Parcel x)) ∷ rest m.1) × (w ≡ (logged m.0 st.word q (Offer x), rest m.1)))

  abbrev pub takes_it : Step (Option (Content P O)) → Seated P O → ℕ → Seated P O → Type 0
  takes_it st m n w = Rises m.0 st.word w.0 × ((q : ℕ) × (st.first ≡ q * 8 + 1)
      × (n ≡ st.first → (x : P) × (role m.0 st.word ≡ nothing) × (w ≡ (logged m.0 st.word q (Take x), (st.word, Some (Parcel x)) ∷ m.1)))
      × (n ≢ st.first → w ≡ (noting m.0 st.word n, m.1)))

  abbrev pub reclaims : Step (Option (Content P O)) → Seated P O → ℕ → Seated P O → Type 0
  reclaims st m n w = Rises m.0 st.word w.0 × ((q : ℕ) × (st.first ≡ q * 8 + 1) × (q * 8 + 1 ≤ n) × (n ≤ q * 8 + 4)
      × (n ≡ st.first → (x : P) × (role m.0 st.word ≡ out q x) × (w ≡ (logged m.0 st.word q Reclaim, (st.word, Some (Parcel x)) ∷ m.1)))
      × (n ≢ st.first → w ≡ (noting m.0 st.word n, m.1)))

  abbrev pub stops : Step (Option (Content P O)) → Seated P O → ℕ → Seated P O → Type 0
  stops st m n w = Rises m.0 st.word w.0 × ((q : ℕ) × (st.first ≡ q * 8 + 2) × (n ≤ q * 8 + 4)
      × ((n ≡ st.first) ⊎ (n ≡ st.first + 1) → w ≡ (logged m.0 st.word q Stop, m.1))
      × (n ≢ st.first → n ≢ st.first + 1 → w ≡ (noting m.0 st.word n, m.1)))

  abbrev pub finishes : Step (Option (Content P O)) → Seated P O → ℕ → Seated P O → Type 0
  finishes st m n w = Rises m.0 st.word w.0 × ((q : ℕ) × (y : O) × (st.first ≡ q * 8 + 4) × (m.1 ≡ (st.word, Some (Outcome y)) ∷ rest m.1) × (w ≡ (logged m.0 st.word q (Finish y), rest m.1)))

  abbrev pub looks : Step (Option (Content P O)) → Seated P O → ℕ → Seated P O → Type 0
  looks st m n w = Rises m.0 st.word w.0 × (w ≡ (noting m.0 st.word n, m.1))

  abbrev pub collects : (P → O → Type 0) → Step (Option (Content P O)) → Seated P O → ℕ → Seated P O → Type 0
  collects fits st m n w = Rises m.0 st.word w.0 × ((q : ℕ) × (st.first ≡ q * 8 + 4) × ((x : P) → role m.0 st.word ≡ out q x → n ≤ q * 8 + 4)
      × (n ≡ st.first → (x : P) × (y : O) × (role m.0 st.word ≡ out q x) × fits x y × (w ≡ (logged m.0 st.word q (Collect y), (st.word, Some (Outcome y)) ∷ m.1)))
      × (n ≢ st.first → w ≡ (noting m.0 st.word n, m.1)))

  -- a look of which nothing is noted, which shows the histories of all pads
  abbrev pub shows : (P → O → Type 0) → (O → Cause) → Step (Option (Content P O)) → Seated P O → ℕ → Seated P O → Type 0
  shows fits cause st m n w = (w ≡ m) × ((p : ℕ) → p < st.slots → Recorded fits cause m.0 p)
