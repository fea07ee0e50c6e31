-- What the moves of the innermost section are to a search.
use Rattle.std.specs.Prelude.{◌≡◌, ℕ, ◌<◌, true, List, Some}
use Rattle.ap_frames.specs.declared.frame.Round.TheVariants.{Later}
use Rattle.ap_frames.specs.Slots.{has_answer}
use Rattle.ap_instr.specs.Code.{Compiled}
use Rattle.ap_tie.specs.Sections.{Row, Section, section, bottom, parcall}
use Rattle.ap_tied.specs.SlotCalls.{row_in, readied_behind}
use Rattle.ap_tied.specs.Ties.{Goes}
use Rattle.ap_open.specs.Opened.{Outer, Keeps}

-- of the frame that comes first: slot i was redone, and has answered
abbrev pub HasAnsweredAgain : ℕ → Section → Type 0
HasAnsweredAgain i (section m c b bottom) = ⊥
HasAnsweredAgain i (section m c b (parcall f q rd w qs st)) = (rd ≡ Later i) × (0 < i) × (x : Row) × (row_in i w ≡ Some x) × (has_answer x ≡ true)

-- the slots behind it begin anew
abbrev pub restarted : ℕ → Section → Section
restarted i (section m c b bottom) = section m c b bottom
restarted i (section m c b (parcall f q rd w qs st)) = section m c b (parcall f q rd (readied_behind i w) qs st)

pub record MovingLaw : Type 0 where
  pub stays : (code : Compiled) (outer : List Outer) (s : Section) → Keeps code outer s outer s
  pub goes_on : (code : Compiled) (o o' o'' : List Outer) (s s' s'' : Section) → Keeps code o s o' s' → Keeps code o' s' o'' s'' → Keeps code o s o'' s''
  -- whatever the section is tied to, it goes so
  pub moves : (code : Compiled) (outer : List Outer) (s s' : Section) → Goes code s s' → Keeps code outer s outer s'
  pub restarts : (code : Compiled) (outer : List Outer) (s : Section) (i : ℕ) → HasAnsweredAgain i s → Keeps code outer s outer (restarted i s)
