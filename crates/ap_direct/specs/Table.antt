-- The goals of code by their places.
use Rattle.std.specs.Prelude.{◌≡◌, ℕ, ◌≤◌, nat_lt, nat_le, ◌&&◌, Bool, true, List, length, take, Option, slice_get, Some, None}
use Rattle.std.specs.List.{list_all}
use Rattle.std.proofs.Common.{Box, Global}
use Rattle.ap_instr.specs.Code.{Compiled}
use Rattle.ap_direct.specs.declared.goal.Direct.{Direct}
use Rattle.ap_direct.specs.declared.table.Directs.{Directs}
use Rattle.ap_direct.specs.Goals.{AsksFirst}

-- a goal in a block of its own
abbrev pub Boxed : Type 0
Boxed = Box Direct Global

-- what the list has at a place, the code asks for there
abbrev pub AreAsked : Compiled → List (Option Boxed) → Type 0
AreAsked code gs = (at : ℕ) (d : Boxed) → slice_get gs at ≡ Some (Some d) → AsksFirst code at d.value

abbrev pub AreGoalsOf : Compiled → Directs → Type 0
AreGoalsOf code t = AreAsked code t.goals.items

-- the two lists have the same before a place
abbrev pub AreSameBefore : ℕ → List (Option Boxed) → List (Option Boxed) → Type 0
AreSameBefore at gs hs = (n : ℕ) → n ≤ at → take n hs ≡ take n gs

-- the code behind the goal, if there is one, begins before a place
abbrev pub ends_within : ℕ → Option Boxed → Bool
ends_within n None = true
ends_within n (Some d) = nat_lt d.value.to n

-- the goals begin and end before a place
abbrev pub stay_within : ℕ → Directs → Bool
stay_within n t = nat_le (length t.goals.items) n && list_all (ends_within n) t.goals.items
