-- What a search's moves keep.
use Rattle.std.specs.Prelude.{◌≡◌, ℕ, ◌+◌, ◌≤◌, List, [], ◌∷◌, length, take, Option, None, Some}
use Rattle.ap_tracked.specs.Tracked.{Tracked}
use Rattle.ap_instr.specs.Code.{Compiled}
use Rattle.ap_control.specs.declared.alternatives.Alternative.{Alternative}
use Rattle.ap_steps.specs.Moves.{held}
use Rattle.ap_standing.specs.Machine.{Point, Machine, places_from}
use Rattle.ap_standing.specs.Holds.{HoldsRest}
use Rattle.ap_machine.specs.View.{Paused}

-- the same query with as many calls to make, and as many registers
pub record Stays (s t : Paused) : Type 0 where
  pub x : length t.machine.x ≡ length s.machine.x
  pub y : length t.machine.y ≡ length s.machine.y
  pub roots : t.machine.roots ≡ s.machine.roots
  pub spent : t.spent ≡ s.spent
  pub budget : t.budget ≡ s.budget
  pub older : t.older ≡ s.older

-- the machine is where its newest choice point was made
pub record AtNewest (m : Machine) : Type 0 where
  pub point : Point
  pub others : List Point
  pub points : m.points ≡ point ∷ others
  pub cells : m.cells ≡ point.cells
  pub returns : m.returns ≡ point.returns
  pub x : (n : ℕ) → held m.x n ≡ held point.arguments n

-- back at the newest choice point, which is still there
pub record Returned (s t : Paused) : Type 0 where
  pub stays : Stays s t
  pub points : t.machine.points ≡ s.machine.points
  pub now : t.machine.now ≡ s.machine.now
  pub at : AtNewest t.machine

-- the clauses' places that an alternative, and those behind it, name
abbrev pub places_of : Compiled → Option Alternative → List ℕ
places_of code None = []
places_of code (Some a) = a.place ∷ places_from code a.behind

-- of the newest choice point's clauses at these places only some need be tried
pub record LeavesOut (code : Compiled) (m : Machine) (ls rest : List ℕ) : Type 0 where
  pub fewer : length rest ≤ length ls
  pub keeps : (q : Point) (qs : List Point) → m.points ≡ q ∷ qs → (ss : List Tracked) → HoldsRest code m.roots q ls qs ss → HoldsRest code m.roots q rest qs ss

-- a choice point for a call on the argument registers, with an alternative
abbrev pub called_point : ℕ → ℕ → Alternative → Machine → Point
called_point number arity a m = record {
  cells = m.cells;
  returns = m.returns;
  arguments = take (arity + 1) m.x;
  predicate = number;
  place = a.place;
  behind = a.behind;
}

-- the choice points where of the newest one an alternative, and those behind it, are left
abbrev pub points_left : Option Alternative → Point → List Point → List Point
points_left None q qs = qs
points_left (Some a) q qs = record q { place = a.place; behind = a.behind } ∷ qs
