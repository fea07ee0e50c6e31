-- What a section that is driven by hand comes to.
use Rattle.std.proofs.Common.{◌≡◌, ℕ, ◌+◌, ◌-◌, ◌<◌, ◌^◌, true, Some, Ok, IfOk, sym, subst}
use Rattle.std.specs.Prelude.{Result}
use Rattle.ap_term.specs.declared.memory.NoMemory.{NoMemory}
use Rattle.ap_instr.specs.Code.{Compiled}
use Rattle.ap_frames.specs.declared.frame.Round.TheVariants.{Closed}
use Rattle.ap_frames.specs.Verdicts.{next_redo}
use Rattle.ap_tie.specs.Sections.{Section, section, rows}
use Rattle.ap_tie.specs.Settled.{AreClosed}
use Rattle.ap_tied.specs.Ties.{stack_in}
use Rattle.ap_tied.specs.SlotCalls.{held_in}
use Rattle.ap_section.specs.declared.advance.Turn.{Turn}
use Rattle.ap_section.specs.declared.advance.Turn.TheVariants.{Answer, Fork}
use Rattle.ap_section.specs.Ends.{Ends}
use Rattle.ap_section.specs.Slots.{IsAtFrame, round_in, slots_in, is_held, held_spent}
use Rattle.ap_section.specs.Views.{spent_in, budget_in}
use Rattle.ap_section.specs.Settles.{IsSettled}
use Rattle.ap_section.specs.declared.settle.Settled.TheVariants.{Redo}

ended : (code : Compiled) (n : ℕ) (s t : Section) (r : Result Turn NoMemory) (end : Turn) → r ≡ Ok end → IfOk r (λ turn. Ends code n s t turn) → Ends code n s t end
ended code n s t r end e h = subst (λ q. IfOk q (λ turn. Ends code n s t turn)) e h

pub answer-closed : (code : Compiled) (n : ℕ) (s t : Section) (r : Result Turn NoMemory) → IfOk r (λ turn. Ends code n s t turn) → r ≡ Ok Answer → AreClosed (stack_in t)
answer-closed code n s (section m c b st) r h e = (ended code n s (section m c b st) r Answer e h).1

pub fork-framed : (code : Compiled) (n : ℕ) (s t : Section) (r : Result Turn NoMemory) → IfOk r (λ turn. Ends code n s t turn) → r ≡ Ok Fork → IsAtFrame t
fork-framed code n s (section m c b st) r h e = (ended code n s (section m c b st) r Fork e h).0

-- what a section asks for where a slot of its frame is redone
pub record Redoes (i : ℕ) (t : Section) : Type 0 where
  pub at : IsAtFrame t
  pub closed : round_in t ≡ Closed
  pub redo : next_redo (rows (slots_in t)) ≡ Some i
  pub there : is_held (held_in i (slots_in t)) ≡ true
  pub fits : held_spent (held_in i (slots_in t)) + (budget_in t - spent_in t) < 2 ^ 64

redoes-same : (s t : Section) (i : ℕ) → t ≡ s → IsAtFrame s → IsSettled s t (Redo i) → Redoes i t
redoes-same s t i e at settled = subst (Redoes i) (sym e) (record { at = at; closed = settled.1; redo = settled.2; there = settled.3; fits = settled.4 })

pub redoes : (s t : Section) (i : ℕ) → IsAtFrame s → IsSettled s t (Redo i) → Redoes i t
redoes s t i at settled = redoes-same s t i settled.0 at settled
