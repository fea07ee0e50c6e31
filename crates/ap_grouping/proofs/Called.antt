-- The call of a query is safe where the checks that aren't written hold.
use Rattle.std.proofs.Common.{◌≡◌, ℕ, true, false, refl}
use Rattle.ap_term.specs.declared.fixed.TheConstants.{QUERY}
use Rattle.ap_term.specs.Tree.{atom}
use Rattle.ap_term.specs.Goals.{Program}
use Rattle.ap_tracked.specs.Forks.{alone, IsUnused}
use Rattle.ap_tracked.specs.Safe.{IsSafe}
use Rattle.ap_patterns.specs.declared.entries.Entries.TheVariants.{Query}
use Rattle.ap_certify.specs.declared.certified.Scope.TheVariants.{Of}
use Rattle.ap_certify.specs.Certificate.{AreMissingGiven}
use Rattle.ap_certify.proofs.Safe.{safe}

no_true : false ≡ true → ⊥
no_true e = cc e

-- it has no variable
unused : (n : ℕ) → IsUnused n (atom QUERY)
unused n x h = absurd (no_true h)

pub called-safe : (a : Program) → AreMissingGiven a (Of Query) → (n : ℕ) → IsSafe a (alone (atom QUERY) n)
called-safe a given n = safe (record { program = a; scope = Of Query }) (record { given = given }) (atom QUERY) refl n (unused n)
