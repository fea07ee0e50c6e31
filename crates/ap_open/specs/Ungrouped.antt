-- Programs and goals without groups.
use Rattle.std.specs.Prelude.{List, [], ◌∷◌}
use Rattle.std.specs.List.{AllByRecursion}
use Rattle.ap_term.specs.Goals.{Part, call, group, Program}

-- none of them is a group
abbrev pub AreCalls : List Part → Type 0
AreCalls [] = Unit {0}
AreCalls (call g ∷ ps) = AreCalls ps
AreCalls (group cs gs ∷ ps) = ⊥

abbrev pub IsUngrouped : Program → Type 0
IsUngrouped p = AllByRecursion (λ c. AreCalls c.body) p
