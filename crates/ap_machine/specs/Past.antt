-- A search that goes past groups, whose goals it calls one after another.
use Rattle.std.specs.Prelude.{List, [], ◌∷◌}
use Rattle.ap_instr.specs.Code.{Compiled}
use Rattle.ap_machine.specs.View.{Paused, IsFor}
use Rattle.ap_machine.specs.Stands.{IsAtGroup}
use Rattle.ap_machine.specs.Forking.{HasGonePlain}
use Rattle.ap_machine.specs.Advanced.{Advanced}

-- It went past the group at which it was at one moment, and made turns up to another one.
abbrev pub IsPast : Compiled → Paused → Paused → Type 0
IsPast code g t = IsFor code g × IsAtGroup code g.machine × (u : Paused) × HasGonePlain code g u × IsFor code u × Advanced code u t

-- Turns led from one moment to another, between them past the groups at which it was at these moments, the last group first.
abbrev pub AdvancedPast : Compiled → Paused → List Paused → Paused → Type 0
AdvancedPast code s [] t = Advanced code s t
AdvancedPast code s (g ∷ gs) t = AdvancedPast code s gs g × IsPast code g t
