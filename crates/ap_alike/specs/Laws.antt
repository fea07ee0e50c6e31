-- What is made of one program is made of one that is alike.
use Rattle.std.specs.Prelude.{◌≡◌}
use Rattle.ap_term.specs.Goals.{Program}
use Rattle.ap_cge.specs.Stripped.{stripped}
use Rattle.ap_patterns.specs.declared.entries.Entries.{Entries}
use Rattle.ap_mel.specs.declared.annotations.Kind.{Kind}
use Rattle.ap_mel.specs.Made.{IsMade}
use Rattle.ap_alike.specs.Alike.{AreAlike}

pub record AlikeLaw : Type 0 where
  -- with the groups of the same goals and the same checks
  pub made : (k : Kind) (E : Entries) (P Q A : Program) → AreAlike P Q → IsMade k E P A → (B : Program) × IsMade k E Q B × AreAlike A B
  -- and there is one alone
  pub one : (A B C : Program) → AreAlike A B → AreAlike A C → stripped B ≡ stripped C → B ≡ C
