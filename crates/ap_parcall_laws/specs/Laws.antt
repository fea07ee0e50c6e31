-- The laws: a frame whose slots stand as the core's agrees with the core.
use Rattle.std.specs.Prelude.{◌≡◌, ℕ, ◌-◌, Bool, true, false, is_some, take, List, Some}
use Rattle.std.specs.List.{list_all}
use Rattle.ap_term.specs.Tree.{Tree}
use Rattle.ap_core.specs.declared.tasks.Round.{Round as CoreRound}
use Rattle.ap_core.specs.declared.tasks.Round.TheVariants as core_round
use Rattle.ap_core.specs.Tasks as core
use Rattle.ap_core.specs.Conditions as conditions
use Rattle.ap_core.specs.Relation as relation
use Rattle.ap_frames.specs.declared.slots.Slot.{Slot}
use Rattle.ap_frames.specs.declared.frame.Round.{Round}
use Rattle.ap_frames.specs.declared.frame.Round.TheVariants as round
use Rattle.ap_frames.specs.declared.verdict.Verdict.TheVariants.{Drain}
use Rattle.ap_frames.specs.Slots.{has_answer}
use Rattle.ap_frames.specs.Rows.{Row}
use Rattle.ap_frames.specs.Verdicts.{charge, judged, verdict, next_redo}
use Rattle.ap_frames.specs.Rounds.{resumed, replayed_after}
use Rattle.ap_parcall_laws.specs.Alike.{AreAlike, IsRound, AreStoredBehind, verdict_of}

-- the left edge, where the round is open
pub record EdgeLaw (S T : Type 0) : Type 0 where
  pub edge : (loud : Tree → Bool) (r : ℕ) (rd : Round) (od : CoreRound) (xs : List (Slot S T)) (w : core.Slots) → AreAlike loud r xs w → IsRound rd r xs od w → conditions.is_open od ≡ true
      → conditions.left_edge r 0 w ≡ charge rd xs

-- the verdict, and whether a slot is redone
pub record VerdictLaw (S T : Type 0) : Type 0 where
  pub verdict : (loud : Tree → Bool) (r : ℕ) (rd : Round) (od : CoreRound) (xs : List (Slot S T)) (w : core.Slots) → AreAlike loud r xs w → IsRound rd r xs od w
      → conditions.verdict loud od r w ≡ verdict_of (judged r rd xs)
  pub redo : (loud : Tree → Bool) (r : ℕ) (xs : List (Slot S T)) (w : core.Slots) → AreAlike loud r xs w → conditions.some_has_more w ≡ is_some (next_redo xs)

-- A closed frame whose slot i is redone with the rest r stands as the core's after its redo: all slots left of i have answers, and those right of it have stored theirs, or have
-- no record.
pub record RedoLaw (S T : Type 0) : Type 0 where
  pub redone : (loud : Tree → Bool) (r i : ℕ) (f : Row S T) (w : core.Slots) → AreAlike loud f.rest f.slots w → f.round ≡ round.Closed → next_redo f.slots ≡ Some i
      → list_all has_answer (take (i - 1) f.slots) ≡ true → AreStoredBehind i f.slots w
      → AreAlike loud r (resumed i r f).slots (relation.redo_from r w) × IsRound (resumed i r f).round r (resumed i r f).slots core_round.Later (relation.redo_from r w)

-- An open frame whose verdict is a drain, and whose slot runs on, stands as the core's after that event.
pub record DrainLaw (S T : Type 0) : Type 0 where
  pub drained : (loud : Tree → Bool) (i x : ℕ) (f : Row S T) (w : core.Slots) → AreAlike loud f.rest f.slots w → IsRound f.round f.rest f.slots core_round.First w → verdict f ≡ Drain i x
      → conditions.some_is_again w ≡ false
      → AreAlike loud f.rest (resumed i x f).slots (relation.drained_at x (conditions.left_edge f.rest 0 w) i w)
      × IsRound (resumed i x f).round f.rest (resumed i x f).slots core_round.First (relation.drained_at x (conditions.left_edge f.rest 0 w) i w)

-- Where slot i and those left of it have answers, replaying those right of it is the core's event.
pub record ReplayLaw (S T : Type 0) : Type 0 where
  pub replayed : (loud : Tree → Bool) (i : ℕ) (f : Row S T) (w : core.Slots) → AreAlike loud f.rest f.slots w → list_all has_answer (take i f.slots) ≡ true
      → AreAlike loud f.rest (replayed_after i f).slots (relation.each_slot relation.replayed w)
