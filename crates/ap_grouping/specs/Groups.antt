-- A query beside a program, with groups.
use Rattle.std.specs.Prelude.{◌≡◌, ℕ}
use Rattle.ap_term.specs.declared.fixed.TheConstants.{QUERY}
use Rattle.ap_term.specs.Tree.{atom}
use Rattle.ap_term.specs.Goals as goals
use Rattle.ap_term.specs.Goals.{Program, joined}
use Rattle.ap_tracked.specs.Forks.{alone}
use Rattle.ap_tracked.specs.Safe.{IsSafe}
use Rattle.ap_cge.specs.Stripped.{stripped_clause, stripped}
use Rattle.ap_patterns.specs.declared.entries.Entries.TheVariants.{Query}
use Rattle.ap_mel.specs.declared.annotations.Kind.{Kind}
use Rattle.ap_mel.specs.Made.{IsMade}

-- Without groups the program a and the query b are p and q; the groups are those at which the annotator's passes end, and at each one that
-- the search of the query comes to the written checks are enough.
pub record AreGroups (kind : Kind) (p : Program) (q : goals.Query) (a : Program) (b : goals.Query) : Type 0 where
  pub made : IsMade kind Query (joined p q) (joined a b)
  pub program : stripped a ≡ stripped p
  pub question : stripped_clause b.question ≡ stripped_clause q.question
  pub lifted : stripped b.lifted ≡ stripped q.lifted
  pub names : b.names ≡ q.names
  pub safe : (n : ℕ) → IsSafe (joined a b) (alone (atom QUERY) n)
