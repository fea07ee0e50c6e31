-- What certified programs are worth.
use Rattle.std.specs.Prelude.{◌≡◌, ◌≢◌, ℕ}
use Rattle.ap_term.specs.Goals.{Program}
use Rattle.ap_term.specs.WellFormed.{IsProgram}
use Rattle.ap_absunify.specs.declared.states.State.{State}
use Rattle.ap_patterns.specs.declared.entries.Entries.{Entries}
use Rattle.ap_patterns.specs.Given.{Patterns}
use Rattle.ap_patterns.specs.Covered.{IsClosed}
use Rattle.ap_certify.specs.declared.certified.Scope.TheVariants.{Of}
use Rattle.ap_certify.specs.declared.faults.CertErr.{CertErr}
use Rattle.ap_certify.specs.declared.faults.CertErr.TheVariants.{NotClosed, NoMemory}
use Rattle.ap_tracked.specs.Forks.{Fork}
use Rattle.ap_certify.specs.Certificate.{Certificate, IsCertified, MissingHold, AreMissingGiven, AreQueriesSafe}
use Rattle.ap_tracked.specs.Safe.{IsIndependent}
use Rattle.ap_certify.specs.GroupsGiven.{AreGroupsGiven}
use Rattle.ap_certify.specs.Refused.{IsRefusedBy}

-- a table that covers all that is given to it, and gives what the groups leave out, makes the program sound
abbrev pub SoundLaw : Type 0
SoundLaw = (E : Entries) (A : Program) (t : Patterns) → IsProgram A → IsClosed E A t → AreGroupsGiven t A → AreMissingGiven A (Of E)

-- a program is refused for want of memory alone where the table covers all that is given to it, and gives what the
-- groups leave out
abbrev pub UnrefusedLaw : Type 0
UnrefusedLaw = (E : Entries) (A : Program) (t : Patterns) (e : CertErr) → IsProgram A → IsClosed E A t → AreGroupsGiven t A → IsRefusedBy E A t e → e ≡ NoMemory

-- the pattern of a table that is refused, and what is given to it, differ
abbrev pub DifferLaw : Type 0
DifferLaw = (E : Entries) (A : Program) (t : Patterns) (clause place : ℕ) (was now : State) → IsRefusedBy E A t (NotClosed clause place was now) → was ≢ now

-- where the checks that aren't written hold, and the written ones do, the goals are strictly independent
abbrev pub StrictLaw : Type 0
StrictLaw = (f : Fork) → MissingHold f → IsIndependent f

-- the search of each query for which a program is certified is safe
abbrev pub SafeLaw : Type 0
SafeLaw = (c : Certificate) → IsCertified c → AreQueriesSafe c.program c.scope
