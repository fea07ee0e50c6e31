-- What the verdict on the frame that comes first is in the core.
use Rattle.std.specs.Prelude.{◌≡◌, ℕ, ◌+◌, ◌-◌, true, false, List, [], Some, None}
use Rattle.std.specs.List.{list_any}
use Rattle.ap_core.specs.declared.events.Kind.{Kind}
use Rattle.ap_core.specs.declared.events.Kind.TheVariants.{Join, Break}
use Rattle.ap_core.specs.Tasks.{Task, task, exhausted, alternative, state, frame}
use Rattle.ap_core.specs.Conditions.{spent_by}
use Rattle.ap_core.specs.Relation.{Rules, own, has_spent}
use Rattle.ap_frames.specs.declared.frame.Round.{Round}
use Rattle.ap_frames.specs.declared.frame.Round.TheVariants.{Closed}
use Rattle.ap_frames.specs.declared.verdict.Verdict.TheVariants.{Joined, Broken, Spent}
use Rattle.ap_frames.specs.Slots.{is_running}
use Rattle.ap_frames.specs.Verdicts.{judged, next_redo}
use Rattle.ap_parcall_laws.specs.Alike.{IsRound}
use Rattle.ap_tracked.specs.Tracked.{Tracked}
use Rattle.ap_instr.specs.Code.{Compiled}
use Rattle.ap_standing.specs.Machine.{Point, Machine}
use Rattle.ap_group.specs.Groups.{Forked}
use Rattle.ap_tie.specs.Sections.{Row, section, Stack, parcall, Slots, rows}
use Rattle.ap_tie.specs.Slots.{rest_of}
use Rattle.ap_tie.specs.Settled.{HasFailed}
use Rattle.ap_tie.specs.Tied.{HoldsTask}

-- the round of the frame that comes first stands as the core's
abbrev pub StandsRound : Round → List Row → Task → Type 0
StandsRound rd xs (task r c exhausted) = Unit {0}
StandsRound rd xs (task r c (alternative (state s) l)) = Unit {0}
StandsRound rd xs (task r c (alternative (frame s od v) l)) = IsRound rd r xs od v

-- the task has this event, at that cost
abbrev pub Happens : Rules → Kind → ℕ → Task → Type 0
Happens p k e t = (u : Task) × (own p k t ≡ Some u) × (spent_by u ≡ spent_by t + e) × (rest_of u ≡ rest_of t - e)

-- Where nothing but a frame is left to do, its verdict, made of numbers alone, is the core's: a join, a break where no slot
-- runs, a budget that is spent. A closed frame without a slot to redo breaks at no cost.
pub record VerdictLaw : Type 0 where
  pub joins : (code : Compiled) (p : Rules) (o : Tracked) (m : Machine) (c b : ℕ) (f : Forked) (q : ℕ) (rd : Round) (w : Slots) (qs : List Point) (st : Stack) (t : Task) (e : ℕ)
      → HasFailed m.roots [] m → StandsRound rd (rows w) t → HoldsTask code p o (section m c b (parcall f q rd w qs st)) t → judged q rd (rows w) ≡ Joined e → Happens p Join e t
  pub breaks : (code : Compiled) (p : Rules) (o : Tracked) (m : Machine) (c b : ℕ) (f : Forked) (q : ℕ) (rd : Round) (w : Slots) (qs : List Point) (st : Stack) (t : Task) (e : ℕ)
      → HasFailed m.roots [] m → StandsRound rd (rows w) t → HoldsTask code p o (section m c b (parcall f q rd w qs st)) t → judged q rd (rows w) ≡ Broken e → list_any is_running (rows w) ≡ false → Happens p Break e t
  pub spends : (code : Compiled) (p : Rules) (o : Tracked) (m : Machine) (c b : ℕ) (f : Forked) (q : ℕ) (rd : Round) (w : Slots) (qs : List Point) (st : Stack) (t : Task)
      → HasFailed m.roots [] m → StandsRound rd (rows w) t → HoldsTask code p o (section m c b (parcall f q rd w qs st)) t → judged q rd (rows w) ≡ Spent → has_spent p.loud t ≡ true
  pub drops : (code : Compiled) (p : Rules) (o : Tracked) (m : Machine) (c b : ℕ) (f : Forked) (q : ℕ) (w : Slots) (qs : List Point) (st : Stack) (t : Task)
      → HasFailed m.roots [] m → HoldsTask code p o (section m c b (parcall f q Closed w qs st)) t → next_redo (rows w) ≡ None → Happens p Break 0 t
