-- What the table is worth.
use Rattle.std.specs.Prelude.{◌≡◌}
use Rattle.ap_term.specs.Goals.{Program}
use Rattle.ap_patterns.specs.declared.entries.Entries.{Entries}
use Rattle.ap_patterns.specs.Given.{Patterns}
use Rattle.ap_patterns.specs.Covered.{IsClosed}
use Rattle.ap_fixpoint.specs.Fix.{IsFix}

-- the table covers all that is given to it
abbrev pub ClosedLaw : Type 0
ClosedLaw = (E : Entries) (A : Program) (t : Patterns) → IsFix E A t → IsClosed E A t

-- each program has a table for each entries: the rounds end
abbrev pub TableLaw : Type 0
TableLaw = (E : Entries) (A : Program) → (t : Patterns) × IsFix E A t

-- it has no other one
abbrev pub OneTableLaw : Type 0
OneTableLaw = (E : Entries) (A : Program) (t u : Patterns) → IsFix E A t → IsFix E A u → t ≡ u
