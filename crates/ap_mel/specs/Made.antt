-- The annotated program at which the passes end.
use Rattle.std.specs.Prelude.{◌≡◌}
use Rattle.ap_term.specs.Goals.{Program}
use Rattle.ap_patterns.specs.declared.entries.Entries.{Entries}
use Rattle.ap_patterns.specs.Given.{Patterns}
use Rattle.ap_fixpoint.specs.Fix.{IsFix}
use Rattle.ap_udg.specs.declared.runs.Rule.TheVariants.{Conditional, Unconditional}
use Rattle.ap_udg.specs.Annotated.{IsAnnotated}
use Rattle.ap_mel.specs.declared.annotations.Kind.{Kind}
use Rattle.ap_mel.specs.declared.annotations.Kind.TheVariants as kind
use Rattle.ap_mel.specs.Mended.{mended_program}

-- the program's first groups, by the table of the program as it is written
abbrev pub IsFirst : Kind → Patterns → Program → Program → Type 0
IsFirst kind.Mel t P A = IsAnnotated Conditional t P A
IsFirst kind.Udg t P A = IsAnnotated Unconditional t P A
IsFirst kind.None t P A = A ≡ P

-- Programs that passes come to, from a first one on. A pass takes the table of the program before it.
pub data Passes (k : Kind) (E : Entries) (P first : Program) : Program → Type 0 where
  begun : (A : Program) → A ≡ first → Passes k E P first A
  passed : (A : Program) (t : Patterns) (B : Program) → Passes k E P first A → IsFix E A t → B ≡ mended_program k t P A → Passes k E P first B

-- the first one that a pass leaves as it is
pub record IsMade (k : Kind) (E : Entries) (P A : Program) : Type 0 where
  pub written : Patterns
  pub written_is : IsFix E P written
  pub first : Program
  pub first_is : IsFirst k written P first
  pub passes : Passes k E P first A
  pub table : Patterns
  pub table_is : IsFix E A table
  pub last : mended_program k table P A ≡ A
