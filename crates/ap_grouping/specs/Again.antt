-- Queries that get the groups of other ones.
use Rattle.std.specs.Prelude.{◌≡◌, false, []}
use Rattle.ap_term.specs.Goals as goals
use Rattle.ap_term.specs.Goals.{has_groups, Program}
use Rattle.ap_term.specs.WellFormed.{IsProgram}
use Rattle.ap_mel.specs.declared.annotations.Kind.{Kind}
use Rattle.ap_grouping.specs.Groups.{AreGroups}

-- a query was written without groups, and nothing was lifted from it
pub record HasNoGroups (q : goals.Query) : Type 0 where
  pub question : has_groups q.question ≡ false
  pub lifted : q.lifted ≡ []

-- Where one query got its groups beside a program, another one that was asked gets these there.
abbrev pub GetsGroups : goals.Query → goals.Query → goals.Query → Type 0
GetsGroups grouped asked again =
    (kind : Kind) (p a : Program) (q : goals.Query) → HasNoGroups q → IsProgram a → AreGroups kind p q a grouped → AreGroups kind p asked a again
