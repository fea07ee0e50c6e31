-- What becomes of a section whose first frame is closed, forgotten or joined.
pub use Rattle.ap_section.specs.Settles.{CannotMeet}
use Rattle.std.specs.Prelude.{◌≡◌, ℕ, ◌+◌, ◌⊎◌, Bool, true, false, is_some, List, [], ◌∷◌, Option, Some, None, Result, IfOk, OnErr}
use Rattle.std.specs.List.{AllByRecursion, list_any}
use Rattle.ap_term.specs.declared.memory.NoMemory.{NoMemory}
use Rattle.ap_term.specs.Tree.{Trees}
use Rattle.ap_frames.specs.declared.frame.Round.{Round}
use Rattle.ap_frames.specs.declared.frame.Round.TheVariants.{Later}
use Rattle.ap_frames.specs.declared.slots.Slot.{Slot}
use Rattle.ap_frames.specs.declared.slots.Stand.{Stand}
use Rattle.ap_frames.specs.declared.slots.Stand.TheVariants.{Answered}
use Rattle.ap_instr.specs.Code.{Compiled}
use Rattle.ap_standing.specs.Machine.{Machine}
use Rattle.ap_machine.specs.View.{IsFor}
use Rattle.ap_tie.specs.Sections as seen
use Rattle.ap_tie.specs.Sections.{section, Stack, bottom, parcall, Slots, rows}
use Rattle.ap_tie.specs.Settled.{HasFailed, stays}
use Rattle.ap_tied.specs.Emptied.{emptied}
use Rattle.ap_tied.specs.Settling.{HasMet, IsAnswerIn, IsRedoable}
use Rattle.ap_frames.specs.Rounds.{numbered, behind}
use Rattle.ap_frames.specs.Slots.{is_running}
use Rattle.ap_frames.specs.Verdicts.{next_redo}
use Rattle.ap_tied.specs.Ties.{Goes, stack_in}
use Rattle.ap_section.specs.declared.section.Section.{Section}
use Rattle.ap_section.specs.declared.settle.Settled.{Settled}
use Rattle.ap_section.specs.Views.{view_of}
use Rattle.ap_section.specs.Ready.{Shape, Part, AreMatched, AreShut, IsShutPart, parts_of, IsReady}
use Rattle.ap_section.specs.Slots.{IsAtFrame, round_in, slots_in, closed_stack}
use Rattle.ap_section.specs.Settles.{HasCharged, IsSettled}
use Rattle.ap_section.specs.Owed.{OwesNoMore}

-- ---- answers that slots hold

abbrev pub IsHeldAnswer : Option Section → Trees → Type 0
IsHeldAnswer None t = ⊥
IsHeldAnswer (Some s) t = IsAnswerIn (view_of s) t

-- that of the section which a slot holds
abbrev pub IsStandAnswer : Stand Section → Trees → Type 0
IsStandAnswer (Answered a) t = IsHeldAnswer a.section t
IsStandAnswer _ t = ⊥

abbrev pub AreSlotAnswers : List (Slot Section Trees) → List Trees → Type 0
AreSlotAnswers [] [] = Unit {0}
AreSlotAnswers (x ∷ xs) (t ∷ ts) = IsStandAnswer x.stand t × AreSlotAnswers xs ts
AreSlotAnswers _ _ = ⊥

-- ---- slots of a frame whose round is over

-- by the slot that is redone next: those behind it hold less. Where there is none all are given away.
abbrev pub kept_by : Option ℕ → List (Slot Section Trees) → List (Slot Section Trees)
kept_by (Some i) xs = numbered (behind emptied i) 1 xs
kept_by None xs = []

abbrev pub kept_of : List (Slot Section Trees) → List (Slot Section Trees)
kept_of xs = kept_by (next_redo xs) xs

-- ---- the frame that comes first

abbrev pub HasFrame : Stack → Type 0
HasFrame bottom = ⊥
HasFrame (parcall f q rd w qs st) = Unit {0}

-- nothing is left to do but a frame
abbrev pub IsAtFirst : seen.Section → Type 0
IsAtFirst (section m c b st) = HasFrame st × HasFailed m.roots [] m

abbrev pub closed_in : seen.Section → seen.Section
closed_in (section m c b st) = section m c b (closed_stack st)

-- so many calls more were made
abbrev pub charged_in : ℕ → seen.Section → seen.Section
charged_in e (section m c b st) = section m (c + e) b st

-- the frame is gone, and the choice points behind it are the machine's
abbrev pub IsForgotten : seen.Section → seen.Section → Type 0
IsForgotten (section m c b bottom) t = ⊥
IsForgotten (section m c b (parcall f q rd w qs st)) t = (n : Machine) × HasFailed m.roots qs n × (t ≡ section n c b st)

-- the machine is at the frame's fork
abbrev pub IsBack : seen.Section → seen.Section → Type 0
IsBack (section m c b bottom) t = ⊥
IsBack (section m c b (parcall f q rd w qs st)) t = (n : Machine) × HasFailed m.roots [] n × (n.cells ≡ f.cells) × (t ≡ section n c b (parcall f q rd w qs st))

-- it is behind the group, with these answers
abbrev pub HasMetIn : seen.Section → List Trees → seen.Section → Type 0
HasMetIn (section m c b bottom) ts t = ⊥
HasMetIn (section m c b (parcall f q rd w qs st)) ts t = (n : Machine) × HasMet m.roots f ts n × (t ≡ section n c b (parcall f q rd w qs st))

abbrev pub IsRejoined : seen.Section → List Trees → seen.Section → Bool → Type 0
IsRejoined s ts t true = HasMetIn s ts t
IsRejoined s ts t false = IsBack s t × CannotMeet s ts

-- whether a frame stays when its round fails, by the slot that is redone next
abbrev pub stays_by : Round → Option ℕ → Bool
stays_by (Later i) next = is_some next
stays_by _ next = false

-- when its round fails the frame stays
abbrev pub stays_in : seen.Section → Bool
stays_in s = stays (round_in s) (rows (slots_in s))

-- no slot runs, and where the frame stays it can be redone
abbrev pub MayBreak : Bool → Slots → Type 0
MayBreak stays w = (list_any is_running (rows w) ≡ false) × (stays ≡ true → IsRedoable (rows w))

abbrev pub CannotBreak : Bool → Slots → Type 0
CannotBreak stays w = (list_any is_running (rows w) ≡ true) ⊎ ((stays ≡ true) × (IsRedoable (rows w) → ⊥))

-- ---- ready, whatever the first frame's round is

abbrev pub AreShutBehind : List Shape → Type 0
AreShutBehind [] = Unit {0}
AreShutBehind (a ∷ bs) = AreShut bs

abbrev pub AreNearlyReady : Compiled → List Part → Type 0
AreNearlyReady code [] = ⊥
AreNearlyReady code (a ∷ bs) = IsFor code a.search × AreMatched code a.search.older a.frames × AreShutBehind a.frames × AllByRecursion (IsShutPart code) bs

abbrev pub IsNearlyReady : Compiled → Section → Type 0
IsNearlyReady code s = AreNearlyReady code (parts_of s)

-- ---- what became of the frame

pub record IsOutcome (s t : Section) (r : Result Settled NoMemory) : Type 0 where
  pub goes : (code : Compiled) → IsReady code s → Goes code (view_of s) (view_of t)
  pub settled : IfOk r (λ settled. IsSettled (view_of s) (view_of t) settled)
  pub err : OnErr r (IsAtFrame (view_of t) × (stack_in (view_of t) ≡ stack_in (view_of s)) × HasCharged 0 (view_of s) (view_of t))
  pub ready : (code : Compiled) → IsReady code s → IsReady code t
  pub owes : (code : Compiled) → IsReady code s → OwesNoMore (view_of s) (view_of t)
