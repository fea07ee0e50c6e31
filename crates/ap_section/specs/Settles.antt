-- What becomes of a section whose first frame is settled.
use Rattle.std.specs.Prelude.{◌≡◌, ℕ, ◌+◌, ◌-◌, ◌<◌, ◌^◌, ◌⊎◌, Bool, true, false, is_none, List, Some}
use Rattle.std.specs.List.{list_any}
use Rattle.ap_frames.specs.declared.frame.Round.TheVariants.{Closed}
use Rattle.ap_frames.specs.declared.verdict.Verdict.{Verdict}
use Rattle.ap_frames.specs.declared.verdict.Verdict.TheVariants.{Wait, Joined as JoinedBy, Broken as BrokenBy, Spent as SpentBy}
use Rattle.ap_frames.specs.declared.slots.Slot.{Slot}
use Rattle.ap_frames.specs.Slots.{is_running, section_of}
use Rattle.ap_frames.specs.Verdicts.{next_redo}
use Rattle.ap_group.specs.Meets.{MeetAll}
use Rattle.ap_match.specs.Fits.{Fits}
use Rattle.ap_standing.specs.Machine.{returning, failed}
use Rattle.ap_term.specs.Tree.{Tree, Trees}
use Rattle.ap_tie.specs.Sections.{Section, section, bottom, parcall, machine_in, rows}
use Rattle.ap_tie.specs.Settled.{stays}
use Rattle.ap_tied.specs.Settling.{AreAnswersOf, IsRedoable}
use Rattle.ap_tied.specs.SlotCalls.{held_in}
use Rattle.ap_tied.specs.Ties.{stack_in}
use Rattle.ap_section.specs.declared.settle.Settled.{Settled}
use Rattle.ap_section.specs.declared.settle.Settled.TheVariants.{Open, Joined, Broken, Spent, Redo}
use Rattle.ap_section.specs.Views.{spent_in, budget_in}
use Rattle.ap_section.specs.Slots.{slots_in, round_in, verdict_in, closed_stack, held_spent, is_held}

-- it holds no section
abbrev pub lacks_section : {S T : Type 0} → Slot S T → Bool
lacks_section x = is_none (section_of x)

-- nothing meets these answers
abbrev pub CannotMeet : Section → List Trees → Type 0
CannotMeet (section m c b bottom) ts = Unit {0}
CannotMeet (section m c b (parcall f q rd w qs st)) ts = (k : ℕ → Tree) → Fits f.cells k → MeetAll f.goals ts k → ⊥

-- Why a frame isn't settled: its round isn't ended, or is over and no slot can be redone, or that slot's section isn't there. At a
-- failure a slot still runs, or left of one that has more there is one without an answer, where the frame stays. Each goal has an
-- answer, and a slot's section isn't there, or the answers can't be met.
abbrev pub IsOpenIn : Verdict → Section → Type 0
IsOpenIn (JoinedBy e) s = (list_any lacks_section (rows (slots_in s)) ≡ true) ⊎ ((ts : List Trees) × AreAnswersOf (slots_in s) ts × CannotMeet s ts)
IsOpenIn (BrokenBy e) s = (list_any is_running (rows (slots_in s)) ≡ true) ⊎ ((stays (round_in s) (rows (slots_in s)) ≡ true) × (IsRedoable (rows (slots_in s)) → ⊥))
IsOpenIn SpentBy s = ⊥
IsOpenIn Wait s = round_in s ≡ Closed → (i : ℕ) → next_redo (rows (slots_in s)) ≡ Some i → is_held (held_in i (slots_in s)) ≡ false
IsOpenIn _ s = Unit {0}

-- so many calls were charged
pub record HasCharged (e : ℕ) (s t : Section) : Type 0 where
  pub spent : spent_in t ≡ spent_in s + e
  pub budget : budget_in t ≡ budget_in s

-- By the verdict: it was joined, and control is behind the group; it has failed, and what is behind it is to be done; the
-- budget is spent. Of a closed round, slot i is to be redone. Or it can't be settled.
abbrev pub IsSettled : Section → Section → Settled → Type 0
IsSettled s t Joined = (e : ℕ) × (verdict_in s ≡ JoinedBy e) × HasCharged e s t × ((machine_in t).now ≡ returning) × (stack_in t ≡ closed_stack (stack_in s))
IsSettled s t Broken = (e : ℕ) × (verdict_in s ≡ BrokenBy e) × HasCharged e s t × ((machine_in t).now ≡ failed)
IsSettled s t Spent = (verdict_in s ≡ SpentBy) × (t ≡ s)
IsSettled s t (Redo i) =
    (t ≡ s) × (round_in s ≡ Closed) × (next_redo (rows (slots_in s)) ≡ Some i) × (is_held (held_in i (slots_in s)) ≡ true) × (held_spent (held_in i (slots_in s)) + (budget_in s - spent_in s) < 2 ^ 64)
IsSettled s t Open = (stack_in t ≡ stack_in s) × HasCharged 0 s t × IsOpenIn (verdict_in s) s
