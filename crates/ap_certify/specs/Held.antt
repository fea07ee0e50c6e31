-- Whether a table covers what the goals of a body give to it, and gives what its groups leave out.
use Rattle.std.specs.Prelude.{◌≡◌, true, false, List, [], ◌∷◌}
use Rattle.std.specs.List.{All}
use Rattle.ap_term.specs.declared.clauses.Check.{Check}
use Rattle.ap_term.specs.Tree.{Tree, Trees, none, more}
use Rattle.ap_term.specs.Goals.{Part, call, group}
use Rattle.ap_term.specs.Independence.{IsInFullCondition}
use Rattle.ap_patterns.specs.Given.{Patterns}
use Rattle.ap_patterns.specs.Covered.{IsHeld}
use Rattle.ap_certify.specs.declared.sights.Sight.{Sight}
use Rattle.ap_certify.specs.Written.{is_written}
use Rattle.ap_certify.specs.Sights.{given_in, gives, after, after_part}

-- a goal is called as the table has it
abbrev pub IsGoalHeld : Patterns → Sight → Tree → Type 0
IsGoalHeld t s g = All (IsHeld t) (given_in s g)

-- goals that are each called from the fork, and goals that are called one after another
abbrev pub AreHeldAtFork : Patterns → Sight → Trees → Type 0
AreHeldAtFork t s none = Unit {0}
AreHeldAtFork t s (more g gs) = IsGoalHeld t s g × AreHeldAtFork t s gs

abbrev pub AreHeldInTurn : Patterns → Sight → Trees → Type 0
AreHeldInTurn t s none = Unit {0}
AreHeldInTurn t s (more g gs) = IsGoalHeld t s g × AreHeldInTurn t (after t s g) gs

-- each check of the full condition that isn't written is given at the fork
abbrev pub GivesMissing : Sight → List Check → Trees → Type 0
GivesMissing s cs gs = (c : Check) → IsInFullCondition gs c → is_written c cs ≡ false → gives s c ≡ true

abbrev pub IsPartHeld : Patterns → Sight → Part → Type 0
IsPartHeld t s (call g) = IsGoalHeld t s g
IsPartHeld t s (group cs gs) = GivesMissing s cs gs × AreHeldAtFork t s gs × AreHeldInTurn t s gs

abbrev pub IsBodyHeld : Patterns → Sight → List Part → Type 0
IsBodyHeld t s [] = Unit {0}
IsBodyHeld t s (p ∷ ps) = IsPartHeld t s p × IsBodyHeld t (after_part t s p) ps
