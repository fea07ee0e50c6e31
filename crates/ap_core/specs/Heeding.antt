-- What it is that a test tells each goal that may meet a fault.
use Rattle.std.specs.Prelude.{◌≡◌, ℕ, Bool, true, false}
use Rattle.ap_term.specs.Tree.{Tree}
use Rattle.ap_term.specs.Goals.{Program}
use Rattle.ap_term.specs.Loud.{IsLoud}
use Rattle.ap_term.specs.WellFormed.{callable, IsProgram}
use Rattle.ap_laws.specs.Plain.{plain_ways}
use Rattle.ap_laws.specs.Graft.{IsHarmless}

-- the others meet none, searched alone to any depth
abbrev pub Heeds : (Tree → Bool) → Program → Type 0
Heeds loud p = (g : Tree) → loud g ≡ false → (b : ℕ) → IsHarmless (plain_ways p) g b

-- it tells the loud ones, and what is no goal that can be called
abbrev pub Tells : (Tree → Bool) → Program → Type 0
Tells loud p = ((g : Tree) → callable g ≡ false → loud g ≡ true) × ((g : Tree) → IsLoud p g → loud g ≡ true)

-- it tells just these
abbrev pub TellsJust : (Tree → Bool) → Program → Type 0
TellsJust loud p = Tells loud p × ((g : Tree) → callable g ≡ true → loud g ≡ true → IsLoud p g)

abbrev pub HeedLaw : Type 0
HeedLaw = (p : Program) → IsProgram p → (loud : Tree → Bool) → Tells loud p → Heeds loud p
