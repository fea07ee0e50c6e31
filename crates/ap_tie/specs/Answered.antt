-- What an answer leaves of a slot, and what a slot's standing is worth for a frame.
use Rattle.std.specs.Prelude.{◌≡◌, ℕ, true, Some}
use Rattle.ap_term.specs.Tree.{Tree, Trees}
use Rattle.ap_laws.specs.Graft.{IsOf}
use Rattle.ap_core.specs.declared.events.Kind.TheVariants as kinds
use Rattle.ap_core.specs.Tasks as core
use Rattle.ap_core.specs.Tasks.{Answer, Task}
use Rattle.ap_core.specs.Conditions.{has_answer, has_more}
use Rattle.ap_core.specs.Relation.{Rules, Recorded, at_slot, answer, plain_answer, cost_of}
use Rattle.ap_core.specs.Lifting.{running_of}
use Rattle.ap_frames.specs.declared.slots.Answer.{Answer as Noted}
use Rattle.ap_frames.specs.declared.slots.Stand.TheVariants.{Answered}
use Rattle.ap_parcall_laws.specs.Alike.{AreAlike}
use Rattle.ap_tracked.specs.Forks.{alone}
use Rattle.ap_instr.specs.Code.{Compiled}
use Rattle.ap_tie.specs.Sections.{Row, Slots, Held, nothing, held, machine_in, rows}
use Rattle.ap_tie.specs.Tied.{IsAtAnswer, HoldsTask, HoldsSlots}
use Rattle.ap_tie.specs.Slots.{FitsSlot}

-- what holds the alternatives stands for the task of the goal's search
abbrev pub IsSource : Compiled → Rules → ℕ → Tree → Held → Task → Type 0
IsSource code p b g nothing z = Unit {0}
IsSource code p b g (held a) z = IsAtAnswer (machine_in a) × HoldsTask code p (alone g b) a z

-- Where the task of a slot that runs has an answer in front, and the slot isn't a drained one: a slot that notes the
-- answer's cost, and whether the goal has another one, fits with whatever stands for that task.
abbrev pub AnswerSlotLaw : Type 0
AnswerSlotLaw =
    (code : Compiled) (p : Rules) (r b : ℕ) (g : Tree) (x y : Recorded) (z t : Task) (a : Answer) (e : Row) (h : Held) (n : Noted (Unit {0}))
    → running_of x.1 ≡ Some z → answer z ≡ Some (a, t) → at_slot p kinds.Answer r b g x.0 x.1 ≡ Some y → has_answer y.1 ≡ true → IsSource code p b g h z → IsOf g b (plain_answer a)
    → e.is_loud ≡ p.loud g → e.stand ≡ Answered n → n.cost ≡ cost_of y.1 → n.has_more ≡ has_more y.1
    → FitsSlot code p r b g e h y.1

-- Slots that stand for the core's slots stand as these: verdicts and redos agree.
abbrev pub AlikeLaw : Type 0
AlikeLaw = (code : Compiled) (p : Rules) (r b : ℕ) (gs : Trees) (w : Slots) (v : core.Slots) → HoldsSlots code p r b gs w v → AreAlike p.loud r (rows w) v
