-- The rule of the board.
use Rattle.std.specs.Prelude.{◌≡◌, ◌≢◌, ℕ, ◌/◌, ◌<◌, ◌≤◌, ◌+◌, ◌⊎◌, Bool, true, false, List, [], ◌∷◌, ◌++◌, length, slice_index, Option, Some, None}
use mathlib.Core.Option.{some, none}
use mathlib.Core.Option as maybe
use lib.ListN.{get_elem?}
use Rattle.atomic_table.specs.Table.{State, Me, Step}
use Rattle.ap_board.specs.declared.view.Kind.{Kind}
use Rattle.ap_board.specs.declared.view.Call.{Call}
use Rattle.ap_board.specs.declared.view.Cause.{Cause}
use Rattle.ap_board.specs.declared.view.Content.{Content}
use Rattle.ap_board.specs.declared.view.Log.{Log}
use Rattle.ap_board.specs.declared.view.View.{View}
use Rattle.ap_board.specs.History.{Mode, closed, Entry, Legal, by, on, word_of, home_of, Role, nothing, role_of, last_of}

module _ {P O : Type 0} where
  abbrev pub log_of : ℕ → List (Call P O) → Log P O
  log_of n cs = record { seat = n; calls = cs }

  -- the view of a seat that takes part: its number, the pads of each seat, the seats that it made, its calls, and what it took in
  abbrev pub view_of : ℕ → ℕ → ℕ → List (Call P O) → List (Log P O) → View P O
  view_of n k m cs os = record { number = n; pads = k; made = m; calls = cs; others = os; ended = false }

  -- the view of a seat that another took in
  abbrev pub ended_view : View P O
  ended_view = record { number = 0; pads = 0; made = 0; calls = []; others = []; ended = true }

  abbrev pub newcomer : ℕ → View P O
  newcomer pads = view_of 0 pads 1 [] []

  -- the view with one call more
  abbrev pub logged : View P O → ℕ → ℕ → Kind P O → View P O
  logged v p q k = record { number = v.number; pads = v.pads; made = v.made; calls = v.calls ++ record { pad = p; round = q; kind = k } ∷ []; others = v.others; ended = v.ended }

  -- the first seat's view once it has made one seat more
  abbrev pub one_more : View P O → View P O
  one_more v = record { number = v.number; pads = v.pads; made = v.made + 1; calls = v.calls; others = v.others; ended = v.ended }

  -- the view v with the calls of all seats that w has
  abbrev pub taking_in : View P O → View P O → View P O
  taking_in v w = record { number = v.number; pads = v.pads; made = v.made; calls = v.calls; others = v.others ++ log_of w.number w.calls ∷ w.others; ended = v.ended }

  -- what the seat is to the pad, and the last word that it saw there
  abbrev pub role : View P O → ℕ → Role P
  role v p = role_of nothing (on p v.calls)

  abbrev pub last_seen : View P O → ℕ → ℕ
  last_seen v p = last_of 0 (on p v.calls)

  abbrev pub AmongLogs : ℕ → List (Call P O) → List (Log P O) → Type 0
  AmongLogs n cs [] = ⊥
  AmongLogs n cs (l ∷ ls) = ((n ≡ l.seat) × (cs ≡ l.calls)) ⊎ AmongLogs n cs ls

  -- the view has these calls of the seat n
  abbrev pub HasLog : View P O → ℕ → List (Call P O) → Type 0
  HasLog v n cs = (v.ended ≡ false) × (((n ≡ v.number) × (cs ≡ v.calls)) ⊎ AmongLogs n cs v.others)

  -- what a view says of the board: the pads of each seat, and, of the first, how many seats there are. No seat took itself in
  abbrev pub FitsBoard : ℕ → ℕ → View P O → Type 0
  FitsBoard pads seats v = (v.pads ≡ pads) × (v.number ≡ 0 → v.made ≡ seats) × ((cs : List (Call P O)) → AmongLogs v.number cs v.others → ⊥)

  module _ (fits : P → O → Type 0) (cause : O → Cause) where
    -- the pad's history is legal, and has just the calls of the seats; it ends where the word and the slot stand
    pub record PadKept (owner p word : ℕ) (homes : List (maybe.Option (Option (Content P O)))) (views : List (View P O)) (seats : ℕ) : Type 0 where
      pub history : List (Entry P O)
      pub mode : Mode P O
      pub legal : Legal fits cause owner closed history mode
      pub word_is : word ≡ word_of mode
      pub home_is : get_elem? homes p ≡ some (home_of mode)
      pub calls_are : (id : ℕ) (v : View P O) → get_elem? views id ≡ some v → (n : ℕ) (cs : List (Call P O)) → HasLog v n cs → by n history ≡ on p cs
      pub no_others : (n : ℕ) → seats ≤ n → by n history ≡ []

    -- each seat's calls stand in one view, and each pad is kept
    pub record Kept (pads : ℕ) (s : State (Option (Content P O)) (View P O)) : Type 0 where
      pub seats : ℕ
      pub long : length s.words ≡ length s.homes
      pub fit : (id : ℕ) (v : View P O) → get_elem? s.views id ≡ some v → v.ended ≡ false → FitsBoard pads seats v
      pub numbers : (id : ℕ) (v : View P O) (n : ℕ) (cs : List (Call P O)) → get_elem? s.views id ≡ some v → HasLog v n cs → n < seats
      pub apart : (i j : ℕ) (v w : View P O) (n : ℕ) (cs ds : List (Call P O)) → get_elem? s.views i ≡ some v → get_elem? s.views j ≡ some w → HasLog v n cs → HasLog w n ds → i ≡ j
      pub each_pad : (p : ℕ) → p < length s.homes → PadKept (p / pads) p (slice_index s.words p) s.homes s.views seats

    -- what a view shows of a pad: a legal history, in which each seat of the view made just the calls that the view has, on this pad, and, where the view is the first seat's, no seat beyond those that it made took part
    pub record Recorded (v : View P O) (p : ℕ) : Type 0 where
      pub history : List (Entry P O)
      pub mode : Mode P O
      pub legal : Legal fits cause (p / v.pads) closed history mode
      pub calls_are : (n : ℕ) (cs : List (Call P O)) → HasLog v n cs → by n history ≡ on p cs
      pub no_others : v.number ≡ 0 → (n : ℕ) → v.made ≤ n → by n history ≡ []
