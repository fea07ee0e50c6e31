-- What annotators keep, and what groups they make.
use Rattle.std.specs.Prelude.{◌≡◌, ◌≤◌, false, List}
use Rattle.std.specs.List.{All}
use Rattle.ap_term.specs.declared.clauses.Check.{Check}
use Rattle.ap_term.specs.Tree.{Trees, none, more, count_trees}
use Rattle.ap_term.specs.Goals.{Part, call, group, Clause, Program}
use Rattle.ap_term.specs.Independence.{IsInFullCondition}
use Rattle.ap_patterns.specs.Given.{Patterns, is_builtin}
use Rattle.ap_cge.specs.Stripped.{stripped}
use Rattle.ap_conditions.specs.Laws.{IsIn}
use Rattle.ap_udg.specs.declared.runs.Rule.{Rule}
use Rattle.ap_udg.specs.Annotated.{has_groups, IsAnnotatedClause, IsAnnotated}

-- none of the goals is built in
abbrev pub AreUserGoals : Trees → Type 0
AreUserGoals none = Unit {0}
AreUserGoals (more g gs) = (is_builtin g ≡ false) × AreUserGoals gs

-- from two to 32 user goals, and checks of their full condition alone
pub record IsMadeGroup (cs : List Check) (gs : Trees) : Type 0 where
  pub several : 2 ≤ count_trees gs
  pub few : count_trees gs ≤ 32
  pub user : AreUserGoals gs
  pub checks : (c : Check) → IsIn c cs → IsInFullCondition gs c

abbrev pub IsMade : Part → Type 0
IsMade (call g) = Unit {0}
IsMade (group cs gs) = IsMadeGroup cs gs

pub record AnnotatedLaw : Type 0 where
  -- without groups and checks it is the program
  pub stripped : (r : Rule) (t : Patterns) (P A : Program) → IsAnnotated r t P A → stripped A ≡ stripped P
  -- what groups are made in a clause without written ones
  pub groups : (r : Rule) (t : Patterns) (c d : Clause) → IsAnnotatedClause r t c d → has_groups c ≡ false → All IsMade d.body

-- a program has just one annotation by a rule and a table
pub record OneAnnotatedLaw : Type 0 where
  pub some : (r : Rule) (t : Patterns) (P : Program) → (A : Program) × IsAnnotated r t P A
  pub one : (r : Rule) (t : Patterns) (P A B : Program) → IsAnnotated r t P A → IsAnnotated r t P B → A ≡ B
