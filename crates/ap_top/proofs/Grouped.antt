-- A program and a query with groups, beside those without.
use Rattle.std.proofs.Common.{◌≡◌, ℕ, [], ◌∷◌, sym, subst}
use Rattle.ap_term.specs.declared.fixed.TheConstants.{QUERY}
use Rattle.ap_term.specs.Goals.{Program, Query}
use Rattle.ap_cge.specs.Stripped.{stripped}
use Rattle.ap_mel.specs.declared.annotations.Kind.{Kind}
use Rattle.ap_grouping.specs.Groups.{AreGroups}
use Rattle.ap_machine.specs.Started.{NoneIsFor}
use Rattle.ap_open.specs.Reading.{AreRead, IsSafeQuery}
use Rattle.ap_open.proofs.Stripping.{never_calls}
use Rattle.ap_worker.specs.Sought.{MayBeAsked}

-- ---- heads

to-stripped : (name : ℕ) (p : Program) → NoneIsFor name p → NoneIsFor name (stripped p)
to-stripped name [] h = tt
to-stripped name (c ∷ p) h = (h.0, to-stripped name p h.1)

from-stripped : (name : ℕ) (p : Program) → NoneIsFor name (stripped p) → NoneIsFor name p
from-stripped name [] h = tt
from-stripped name (c ∷ p) h = (h.0, from-stripped name p h.1)

same-heads : (name : ℕ) (p a : Program) → stripped a ≡ stripped p → NoneIsFor name p → NoneIsFor name a
same-heads name p a e h = from-stripped name a (subst (NoneIsFor name) (sym e) (to-stripped name p h))

-- ----

module _ (kind : Kind) (p : Program) (q : Query) (a : Program) (b : Query) (are : AreGroups kind p q a b) where
  pub grouped-read : AreRead p q a b
  grouped-read = record { same_program = are.program; same_question = are.question; same_lifted = are.lifted }

  pub grouped-asked : MayBeAsked p q → MayBeAsked a b
  grouped-asked may = record {
    calls = never_calls p a q b QUERY grouped-read may.calls;
    program = same-heads QUERY p a are.program may.program;
    lifted = same-heads QUERY q.lifted b.lifted are.lifted may.lifted;
  }

  pub grouped-safe : IsSafeQuery a b
  grouped-safe = are.safe 0
