-- What conditions are worth.
pub use Rattle.ap_term.specs.Lists.{IsOneOf as IsIn}
use Rattle.std.specs.Prelude.{◌≡◌, ◌↔◌, ℕ, true, IsTrue}
use Rattle.ap_term.specs.declared.clauses.Check.{Check}
use Rattle.ap_term.specs.Tree.{Tree, Trees}
use Rattle.ap_term.specs.WellFormed.{numbered_all}
use Rattle.ap_term.specs.Independence.{Holds, IsInFullCondition}
use Rattle.ap_absunify.specs.declared.states.State.{State}
use Rattle.ap_absunify.specs.State.{Covers}
use Rattle.ap_conditions.specs.FullCondition.{full_condition}
use Rattle.ap_conditions.specs.Simplified.{gives, never}

-- the list has exactly the checks of the full condition
abbrev pub FullListLaw : Type 0
FullListLaw = (goals : Trees) (c : Check) → IsTrue (numbered_all 255 goals) → IsIn c (full_condition goals) ↔ IsInFullCondition goals c

-- a check that a state gives holds in each covered instance, and one that holds nowhere in none
pub record ChecksLaw : Type 0 where
  pub given : (s : State) (c : Check) (f : ℕ → Tree) → Covers s f → gives s c ≡ true → Holds f c
  pub never_true : (s : State) (c : Check) (f : ℕ → Tree) → Covers s f → never s c ≡ true → Holds f c → ⊥
