-- Which tasks of the core a section stands for.
use Rattle.std.specs.Prelude.{◌≡◌, ℕ, ◌-◌, ◌⊎◌, Bool, true, false, List, [], length, take, Some}
use Rattle.std.specs.List.{AllZip, list_all}
use Rattle.ap_term.specs.Tree.{Tree, Trees, none, more}
use Rattle.ap_term.specs.Substitution.{instance_all}
use Rattle.ap_laws.specs.Graft.{IsOf}
use Rattle.ap_core.specs.declared.tasks.Round.{Round as CoreRound}
use Rattle.ap_core.specs.declared.tasks.Round.TheVariants as core_round
use Rattle.ap_core.specs.Tasks as core
use Rattle.ap_core.specs.Tasks.{Answer, Task, task, Alternatives, exhausted, alternative, Alternative, frame, Progress, held, again}
use Rattle.ap_core.specs.Conditions.{some_has_more}
use Rattle.ap_core.specs.Relation.{Rules, answer, plain_answer}
use Rattle.ap_frames.specs.declared.frame.Round.{Round}
use Rattle.ap_frames.specs.declared.frame.Round.TheVariants as round
use Rattle.ap_frames.specs.Slots.{has_answer, tuples_of}
use Rattle.ap_frames.specs.Verdicts.{next_redo}
use Rattle.ap_parcall_laws.specs.Alike.{StandsAs, AreStoredBehind}
use Rattle.ap_tracked.specs.Tracked.{Tracked, untracked}
use Rattle.ap_tracked.specs.Forks.{alone}
use Rattle.ap_tracked.specs.Kept.{IsKept}
use Rattle.ap_instr.specs.Code.{Compiled}
use Rattle.ap_standing.specs.Machine.{returning, Machine}
use Rattle.ap_standing.specs.Holds.{Holds, HoldsPoints}
use Rattle.ap_tie.specs.Shows.{Shows, before}
use Rattle.ap_tie.specs.Sections as views
use Rattle.ap_tie.specs.Sections.{Row, Section, section, Stack, bottom, parcall, Slots, no_slot, slot, Held, nothing, machine_in, rows}
use Rattle.ap_tie.specs.Forked.{IsForked}

-- ---- rounds

abbrev pub round_of : Round → CoreRound
round_of round.First = core_round.First
round_of (round.Draining n) = core_round.First
round_of (round.Later i) = core_round.Later
round_of round.Closed = core_round.Closed

-- the rest that an open round began with is its task's
abbrev pub IsRest : Round → ℕ → ℕ → Type 0
IsRest round.First q r = q ≡ r
IsRest (round.Draining n) q r = q ≡ r
IsRest (round.Later i) q r = q ≡ r
IsRest round.Closed q r = Unit {0}

-- a closed one can be redone: left of the slot that is redone all have answers, and those right of it have stored theirs
abbrev pub IsShutIn : Round → List Row → core.Slots → Type 0
IsShutIn round.First xs v = Unit {0}
IsShutIn (round.Draining n) xs v = Unit {0}
IsShutIn (round.Later i) xs v = Unit {0}
IsShutIn round.Closed xs v = (i : ℕ) → next_redo xs ≡ Some i → (list_all has_answer (take (i - 1) xs) ≡ true) × AreStoredBehind i xs v

-- What stands of a frame's slots, unless it is cleared: one whose round is closed may have given its slots away, where none of the core's has
-- an alternative left.
abbrev pub UnlessCleared : Round → Slots → core.Slots → Type 0 → Type 0
UnlessCleared round.First w v Stands = Stands
UnlessCleared (round.Draining n) w v Stands = Stands
UnlessCleared (round.Later i) w v Stands = Stands
UnlessCleared round.Closed no_slot v Stands = some_has_more v ≡ false
UnlessCleared round.Closed (slot x h w) v Stands = Stands

-- ---- answers

-- all clauses have ended
abbrev pub IsAtAnswer : Machine → Type 0
IsAtAnswer m = (m.now ≡ returning) × (m.returns ≡ [])

-- Whatever holds the alternatives of the goal's search stands for a task with an answer in front, which is the slot's, and the slot has
-- what is left of that task. The answer is an instance of the goal's arguments.
abbrev pub AnswersFrom : (Task → Type 0) → ℕ → Tree → Progress → Type 0
AnswersFrom Source b g y =
    (m : List Answer) × (a : Answer) × (t : Task) × (z : Task) × (c : ℕ) × Source z × (answer z ≡ Some (a, t)) × IsOf g b (plain_answer a) × ((y ≡ held m a t c) ⊎ (y ≡ again m a t c))

-- ---- sections

abbrev mutual
  -- The task is one of the search of o: for a slot its goal alone. The machine's states come first, and then what is older.
  -- What was spent and what is left are the task's.
  pub HoldsTask : Compiled → Rules → Tracked → Section → Task → Type 0
  HoldsTask code p o (section m c b st) t =
      (ss : List Tracked) × (xs : List Alternative) × (l : Alternatives) × Holds code m ss × AllZip (Shows p.program o) ss xs × HoldsStack code p o m.roots (b - c) st l × (t ≡ task (b - c) c (before xs l))

  -- A frame, and then the states of the choice points behind it. r is what is left of the section's budget; slots stand by
  -- the rest that their round began with, which is r while it is open.
  pub HoldsStack : Compiled → Rules → Tracked → List ℕ → ℕ → Stack → Alternatives → Type 0
  HoldsStack code p o roots r bottom l = l ≡ exhausted
  HoldsStack code p o roots r (parcall f q rd w qs st) l =
      (s : Tracked) × (i : IsForked code roots f s) × (v : core.Slots) × (ss : List Tracked) × (xs : List Alternative) × (k : Alternatives)
      × IsKept p.program o s × IsRest rd q r × IsShutIn rd (rows w) v × UnlessCleared rd w v (HoldsSlots code p q s.next (instance_all i.own i.goals) w v)
      × HoldsPoints code roots qs ss × AllZip (Shows p.program o) ss xs × HoldsStack code p o roots r st k
      × (l ≡ alternative (frame (untracked s) (round_of rd) v) (before xs k))

  -- The slots one for one, each with its goal. Of a slot that runs the task is left open: it is that of a section elsewhere.
  pub HoldsSlots : Compiled → Rules → ℕ → ℕ → Trees → Slots → core.Slots → Type 0
  HoldsSlots code p r b none no_slot v = v ≡ core.no_slot
  HoldsSlots code p r b (more g gs) (slot x h w) v =
      (k : Bool) × (y : Progress) × (u : core.Slots) × ((x.is_loud ≡ p.loud g) × StandsAs r x.stand (length (tuples_of x)) y × HoldsSource code p b g h y) × HoldsSlots code p r b gs w u × (v ≡ core.slot g k y u)
  HoldsSlots code p r b _ _ v = ⊥

  -- A section of a slot stands at the slot's answer.
  pub HoldsSource : Compiled → Rules → ℕ → Tree → Held → Progress → Type 0
  HoldsSource code p b g nothing y = Unit {0}
  HoldsSource code p b g (views.held a) y = IsAtAnswer (machine_in a) × AnswersFrom (λ z. HoldsTask code p (alone g b) a z) b g y
