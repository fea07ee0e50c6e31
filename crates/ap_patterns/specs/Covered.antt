-- When a pattern covers another one, and tables that cover all that is given to their patterns.
use Rattle.std.specs.Prelude.{Bool, true, false, ◌&&◌, IsTrue}
use Rattle.std.specs.List.{All, list_all}
use Rattle.ap_term.specs.Goals.{Program}
use Rattle.ap_sharing.specs.VarSet.{within}
use Rattle.ap_sharing.specs.Share.{Share, is_member}
use Rattle.ap_absunify.specs.declared.states.State.{State}
use Rattle.ap_absunify.specs.declared.states.State.TheVariants.{Unreachable, Reachable}
use Rattle.ap_patterns.specs.declared.slots.Given.{Given}
use Rattle.ap_patterns.specs.declared.entries.Entries.{Entries}
use Rattle.ap_patterns.specs.Given.{Patterns, given}

-- whether each set is a member of the other, and `any` is within the other's
abbrev pub is_share_covered : Share → Share → Bool
is_share_covered a b = within a.any b.any && list_all (λ s. is_member s b) a.sets

-- whether the second allows all that the first does
abbrev pub is_covered : State → State → Bool
is_covered Unreachable t = true
is_covered (Reachable sh fr) Unreachable = false
is_covered (Reachable sh fr) (Reachable sh2 fr2) = is_share_covered sh sh2 && within fr2 fr

-- what is given is covered by the pattern that it is given to
abbrev pub IsHeld : Patterns → Given → Type 0
IsHeld t g = IsTrue (is_covered g.pattern (t g.slot))

-- each entry, each call and each success is covered
abbrev pub IsClosed : Entries → Program → Patterns → Type 0
IsClosed E A t = All (IsHeld t) (given E A t)
