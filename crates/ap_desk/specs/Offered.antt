-- The goals of its own that a seat has out, of which a desk keeps the notes.
use Rattle.std.specs.Prelude.{◌≡◌, ℕ, ◌+◌, ◌*◌, ◌/◌, ◌<◌, ◌≤◌, true, false, List, slice_get, Option, Some, None}
use Rattle.ap_board.specs.declared.ticket.Ticket.{Ticket}
use Rattle.ap_board.specs.declared.view.View.{View}
use Rattle.ap_board.specs.History.{Role, nothing, keeps, out, has}
use Rattle.ap_board.specs.Rule.{role, last_seen}
use Rattle.ap_desk.specs.declared.note.Note.{Note}

-- the note of a goal that was just offered
abbrev pub fresh_note : Ticket → ℕ → ℕ → Note
fresh_note t f p = record { ticket = t; frame = f; place = p; gone = false; asked = false }

-- the words that stand on a pad from the take in this round on, and once the outcome can be collected
abbrev pub taken_word : Ticket → ℕ
taken_word t = t.round * 8 + 2

abbrev pub finished_word : Ticket → ℕ
finished_word t = t.round * 8 + 4

module _ {P : Type 0} where
  -- the goal that the seat has out on a pad, and the one that it took there
  abbrev pub out_of : Role P → Option P
  out_of nothing = None
  out_of (keeps r) = None
  out_of (out r x) = Some x
  out_of (has r x b) = None

  abbrev pub taken_of : Role P → Option P
  taken_of nothing = None
  taken_of (keeps r) = None
  taken_of (out r x) = None
  taken_of (has r x b) = Some x

module _ {P O : Type 0} where
  -- the goal of a note, and the goal of a ticket that the seat took
  abbrev pub job_of : View P O → Note → Option P
  job_of v n = out_of (role v n.ticket.pad)

  abbrev pub goal_of : View P O → Ticket → Option P
  goal_of v t = taken_of (role v t.pad)

  -- the seat's goals of these tickets and notes are the same in both views
  pub record JobsStay (v w : View P O) (ts : List Ticket) (ns : List Note) : Type 0 where
    pub goals : (i : ℕ) (t : Ticket) → slice_get ts i ≡ Some t → goal_of w t ≡ goal_of v t
    pub jobs : (i : ℕ) (n : Note) → slice_get ns i ≡ Some n → job_of w n ≡ job_of v n

  -- the goals of these notes are out, on own pads, one on each; what is gone was taken
  pub record AreOut (v : View P O) (slots : ℕ) (ns : List Note) : Type 0 where
    pub below : (i : ℕ) (n : Note) → slice_get ns i ≡ Some n → n.ticket.pad < slots
    pub own : (i : ℕ) (n : Note) → slice_get ns i ≡ Some n → n.ticket.pad / v.pads ≡ v.number
    pub out : (i : ℕ) (n : Note) → slice_get ns i ≡ Some n → (x : P) × (role v n.ticket.pad ≡ out n.ticket.round x)
    pub seen : (i : ℕ) (n : Note) → slice_get ns i ≡ Some n → n.gone ≡ true → taken_word n.ticket ≤ last_seen v n.ticket.pad
    pub apart : (i j : ℕ) (n m : Note) → slice_get ns i ≡ Some n → slice_get ns j ≡ Some m → n.ticket.pad ≡ m.ticket.pad → i ≡ j
