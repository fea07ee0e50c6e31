-- What a certified program promises.
use Rattle.std.specs.Prelude.{◌≡◌, ℕ, false, IsTrue}
use Rattle.ap_term.specs.declared.clauses.Check.{Check}
use Rattle.ap_term.specs.Tree.{Tree}
use Rattle.ap_term.specs.WellFormed.{callable}
use Rattle.ap_term.specs.Goals.{Program}
use Rattle.ap_term.specs.Independence.{Holds, IsInFullCondition}
use Rattle.ap_tracked.specs.Safe.{IsSafe}
use Rattle.ap_cge.specs.Stripped.{stripped}
use Rattle.ap_certify.specs.declared.certified.Scope.{Scope}
use Rattle.ap_certify.specs.declared.certified.Scope.TheVariants.{Every, Of}
use Rattle.ap_certify.specs.Entered.{IsEntered}
use Rattle.ap_certify.specs.Written.{is_written}
use Rattle.ap_tracked.specs.Forks.{Fork, Forks, IsUnused, alone}

-- an annotated program, and the queries for which it is certified
pub record Certificate : Type 0 where
  pub program : Program
  pub scope : Scope

-- a query of the scope
abbrev pub IsWithin : Program → Scope → Tree → Type 0
IsWithin p Every goal = IsTrue (callable goal)
IsWithin p (Of entries) goal = IsEntered p entries goal

-- each check of the full condition that isn't written holds
abbrev pub MissingHold : Fork → Type 0
MissingHold f = (c : Check) → IsInFullCondition f.goals c → is_written c f.checks ≡ false → Holds f.own c

-- at each group that a search of a query within the scope comes to, the checks that aren't written hold
abbrev pub AreMissingGiven : Program → Scope → Type 0
AreMissingGiven a scope =
    (goal : Tree) → IsWithin a scope goal → (n : ℕ) → IsUnused n goal → (d : ℕ) (f : Fork) → Forks a (alone goal n) d f → MissingHold f

-- a program with groups and checks of a program: the goals are the same, and each check left out holds
pub record IsSoundAnnotation (p a : Program) (scope : Scope) : Type 0 where
  pub same : stripped a ≡ stripped p
  pub given : AreMissingGiven a scope

pub record IsCertified (c : Certificate) : Type 0 where
  pub given : AreMissingGiven c.program c.scope

-- the search of each query of the scope is safe: at each group that it comes to, the written checks are enough
abbrev pub AreQueriesSafe : Program → Scope → Type 0
AreQueriesSafe a scope = (goal : Tree) → IsWithin a scope goal → (n : ℕ) → IsUnused n goal → IsSafe a (alone goal n)
