-- What the annotation is worth.
use Rattle.std.specs.Prelude.{◌≡◌}
use Rattle.ap_term.specs.Goals.{Program}
use Rattle.ap_patterns.specs.declared.entries.Entries.{Entries}
use Rattle.ap_mel.specs.declared.annotations.Kind.{Kind}
use Rattle.ap_mel.specs.Made.{IsMade}

-- the passes end for each program, and at one alone
pub record OneMadeLaw : Type 0 where
  pub some : (k : Kind) (E : Entries) (P : Program) → (A : Program) × IsMade k E P A
  pub one : (k : Kind) (E : Entries) (P A B : Program) → IsMade k E P A → IsMade k E P B → A ≡ B
