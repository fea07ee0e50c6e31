-- What printing has put, and what it has done to the sink's count of faults.
use Rattle.std.specs.Prelude.{◌≡◌, ℕ, List, Option, Result, Ok, Err}
use Rattle.ap_outside.specs.Faults.{Rises}
use Rattle.ap_outside.specs.Pieces.{Puts, FrontOf, CutOf}
use Rattle.ap_cge.specs.declared.output.PrintErr.{PrintErr}
use Rattle.ap_cge.specs.declared.output.PrintErr.TheVariants as err

-- All the lines, each as one piece. Where the sink failed, the first of them and a beginning of the next; where memory
-- was wanting, the first of them alone, perhaps none.
abbrev pub PutsLines : Option (List (List ℕ)) → Option (List (List ℕ)) → List (List ℕ) → Result (Unit {0}) PrintErr → Type 0
PutsLines old new lines (Ok _) = Puts old new (λ put. put ≡ lines)
PutsLines old new lines (Err err.Sunk) = Puts old new (CutOf (λ put. put ≡ lines))
PutsLines old new lines (Err err.NoMemory) = Puts old new (FrontOf (λ put. put ≡ lines))

-- the sink's count rises where the sink failed, and stays otherwise
abbrev pub CountsFaults : ℕ → ℕ → Result (Unit {0}) PrintErr → Type 0
CountsFaults before now (Ok _) = now ≡ before
CountsFaults before now (Err err.Sunk) = Rises before now
CountsFaults before now (Err err.NoMemory) = now ≡ before
