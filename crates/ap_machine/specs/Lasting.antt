-- How many moves that are no calls a machine makes at most.
use Rattle.std.specs.Prelude.{◌≡◌, ℕ, ◌+◌, ◌*◌, List, [], ◌∷◌, length}
use Rattle.ap_instr.specs.Code.{Compiled}
use Rattle.ap_standing.specs.Machine.{Point, Now, calling, inside, returning, failed, Machine, places}

-- from where it stands to a call, or to where nothing is left to do, with so many returns
abbrev pub moves_to_end : Now → ℕ → ℕ
moves_to_end (calling number) n = 1
moves_to_end (inside at) n = 2 * n + 2
moves_to_end returning n = 2 * n + 1
moves_to_end failed n = 0

-- by the clauses that choice points keep: one to take each, and those from it on
abbrev pub moves_of_points : Compiled → List Point → ℕ
moves_of_points code [] = 0
moves_of_points code (q ∷ qs) = length (places code q) * (2 * length q.returns + 3) + moves_of_points code qs

abbrev pub moves_left : Compiled → Machine → ℕ
moves_left code m = moves_to_end m.now (length m.returns) + moves_of_points code m.points

-- the same returns and choice points
pub record SameRest (m m' : Machine) : Type 0 where
  pub returns : m'.returns ≡ m.returns
  pub points : m'.points ≡ m.points
