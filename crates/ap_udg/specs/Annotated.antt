-- A program with the groups that an annotator makes by a table.
pub use Rattle.ap_term.specs.Goals.{is_group, has_groups}
use Rattle.std.specs.Prelude.{◌≡◌, Bool, true, false, List, [], ◌∷◌}
use Rattle.ap_term.specs.Goals.{Part, Clause, Program}
use Rattle.ap_patterns.specs.Given.{Patterns, is_analysed}
use Rattle.ap_udg.specs.declared.runs.Rule.{Rule}
use Rattle.ap_udg.specs.Completed.{start, completed_body}
use Rattle.ap_udg.specs.Grouped.{Grouped}

-- What becomes of a body. Written groups stay, with the checks that they want; without them the goals are grouped; where
-- the clause isn't analysed, they aren't.
abbrev pub IsBody : Bool → Bool → Rule → Patterns → Clause → List Part → Type 0
IsBody true analysed r t c body = body ≡ completed_body analysed t (start t c) c.body
IsBody false true r t c body = Grouped r t (start t c) c.body body
IsBody false false r t c body = body ≡ c.body

pub record IsAnnotatedClause (r : Rule) (t : Patterns) (c d : Clause) : Type 0 where
  pub head : d.head ≡ c.head
  pub body : IsBody (has_groups c) (is_analysed c) r t c d.body
  pub vars : d.vars ≡ c.vars
  pub line : d.line ≡ c.line

-- clause by clause
abbrev pub IsAnnotated : Rule → Patterns → Program → Program → Type 0
IsAnnotated r t [] A = A ≡ []
IsAnnotated r t (c ∷ cs) [] = ⊥
IsAnnotated r t (c ∷ cs) (d ∷ ds) = IsAnnotatedClause r t c d × IsAnnotated r t cs ds
