-- A search as its callers see it.
use Rattle.std.specs.Prelude.{◌≡◌, ℕ, ◌<◌, List, map, length, take, drop, slice_get, Some}
use Rattle.std.specs.List.{AllByRecursion}
use Rattle.ap_cells.specs.Store.{Store, undone}
use Rattle.ap_instr.specs.declared.compiled.Predicate.{Predicate}
use Rattle.ap_instr.specs.Code.{Compiled}
use Rattle.ap_needs.specs.Needs.{AllHaveTargets}
use Rattle.ap_environments.specs.Kept.{Moment, Forked as ForkKept, Kept}
use Rattle.ap_group.specs.Groups.{Pushed, Forked}
use Rattle.ap_steps.specs.Standing.{Return}
use Rattle.ap_standing.specs.Machine.{Point, Now, calling, inside, returning, failed, Machine}
use Rattle.ap_machine.specs.Live.{IsLive, AreLive}
use Rattle.ap_machine.specs.declared.state.Now.{Now as Kind}
use Rattle.ap_machine.specs.declared.state.Now.TheVariants.{Calling, Inside, Returning, Failed}

-- a fork, and the choice points between the next older fork and it, from the newest on
pub record Segment : Type 0 where
  pub forked : Forked
  pub points : List Point

-- the machine, whose choice points are newer than each fork; the calls that were made and those that may be made; and the
-- forks, from the newest on
pub record Paused : Type 0 where
  pub machine : Machine
  pub spent : ℕ
  pub budget : ℕ
  pub older : List Segment

abbrev pub now_of : Kind → Now
now_of (Calling number) = calling number
now_of (Inside at) = inside at
now_of Returning = returning
now_of Failed = failed

-- a choice point, whose cells are those that its mark leads back to
abbrev pub point_of : Store → Moment → Point
point_of v m = record {
  cells = undone v m.choice.cells m.choice.trail;
  returns = m.returns;
  arguments = m.arguments;
  predicate = m.choice.predicate;
  place = m.choice.place;
  behind = m.choice.behind;
}

abbrev pub machine_of : Store → Kept → List ℕ → List ℕ → List ℕ → Kind → Machine
machine_of v k x y roots now =
    record { cells = v.cells; x = x; y = y; returns = k.returns; roots = roots; points = map (point_of v) k.moments; now = now_of now }

-- at a fork the goals' frames stand above the return behind the group; a frame's place is a goal's predicate, and its
-- registers are the goal's arguments
abbrev pub pushed_of : Return → Pushed
pushed_of w = record { predicate = w.place; arguments = w.y }

abbrev pub forked_of : Store → ForkKept → Forked
forked_of v f = record {
  cells = undone v f.fork.cells f.fork.trail;
  returns = drop f.fork.goals f.returns;
  goals = map pushed_of (take f.fork.goals f.returns);
}

abbrev pub segment_of : Store → ForkKept → Segment
segment_of v f = record { forked = forked_of v f; points = map (point_of v) f.moments }

abbrev pub paused_of : Store → Kept → List ℕ → List ℕ → List ℕ → Kind → ℕ → ℕ → Paused
paused_of v k x y roots now spent budget =
    record { machine = machine_of v k x y roots now; spent = spent; budget = budget; older = map (segment_of v) k.forks }

-- the choice points behind a fork are kept for clauses whose heads unify with their calls
abbrev pub AreLiveAt : Compiled → Segment → Type 0
AreLiveAt code g = AllByRecursion (IsLive code) g.points

-- There are registers for all that the code writes, and for all arguments, and a choice point is kept only for a clause whose
-- head unifies with its call.
pub record IsFor (code : Compiled) (s : Paused) : Type 0 where
  pub targets : (at : ℕ) → AllHaveTargets (drop at code.instructions) (length s.machine.x) (length s.machine.y)
  pub arities : (n : ℕ) (q : Predicate) → slice_get code.predicates n ≡ Some q → q.arity < length s.machine.x
  pub live : AreLive code s.machine
  pub older : AllByRecursion (AreLiveAt code) s.older
