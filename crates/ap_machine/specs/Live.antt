-- Choice points of which the next clause can be taken.
use Rattle.std.specs.Prelude.{◌≡◌, ℕ, List, [], ◌∷◌}
use Rattle.std.specs.List.{AllByRecursion}
use Rattle.ap_instr.specs.Code.{Compiled}
use Rattle.ap_steps.specs.Moves.{held}
use Rattle.ap_standing.specs.Machine.{Point, Now, calling, inside, returning, failed, Machine}
use Rattle.ap_control.specs.Taking.{CanTake}

-- the clause at a place can be taken at a choice point's call: its head unifies with the call
abbrev pub UnifiesAt : Compiled → Point → ℕ → Type 0
UnifiesAt code q place = CanTake code q.cells (held q.arguments) place

-- the next clause's head unifies with the call
abbrev pub IsLive : Compiled → Point → Type 0
IsLive code q = UnifiesAt code q q.place

-- the choice points that are kept for later: all, but where the machine has failed it is at the newest one, which is kept
-- only if another clause of it is
abbrev pub kept_points : Now → List Point → List Point
kept_points (calling number) qs = qs
kept_points (inside at) qs = qs
kept_points returning qs = qs
kept_points failed [] = []
kept_points failed (q ∷ qs) = qs

abbrev pub AreLive : Compiled → Machine → Type 0
AreLive code m = AllByRecursion (IsLive code) (kept_points m.now m.points)

-- if one machine's choice points are kept for clauses that can be taken, the other one's are
abbrev pub KeepsLive : Compiled → Machine → Machine → Type 0
KeepsLive code m m' = AreLive code m → AreLive code m'

-- the clause at a place can be taken at the newest choice point's call
abbrev pub UnifiesAtNewest : Compiled → Machine → ℕ → Type 0
UnifiesAtNewest code m place = (q : Point) (qs : List Point) → m.points ≡ q ∷ qs → UnifiesAt code q place
