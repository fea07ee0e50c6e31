-- Whether a table gives what the groups of a program leave out of their full conditions.
use Rattle.std.specs.Prelude.{◌≡◌, true, false, Bool, List, [], ◌∷◌}
use Rattle.std.specs.List.{All}
use Rattle.ap_term.specs.declared.clauses.Check.{Check}
use Rattle.ap_term.specs.Tree.{Trees}
use Rattle.ap_term.specs.Goals.{Part, call, group, Clause, Program}
use Rattle.ap_term.specs.Independence.{IsInFullCondition}
use Rattle.ap_absunify.specs.declared.states.State.{State}
use Rattle.ap_absunify.specs.declared.states.State.TheVariants.{Unreachable}
use Rattle.ap_patterns.specs.Given.{Patterns, call_at, after_goal, after_goals, is_analysed, entered}
use Rattle.ap_patterns.specs.Table.{predicate_of}
use Rattle.ap_conditions.specs.Simplified.{gives}
use Rattle.ap_certify.specs.Written.{is_written}

-- each check of the full condition is written or given by the state at the fork
abbrev pub IsGroupGiven : State → List Check → Trees → Type 0
IsGroupGiven s cs gs = (c : Check) → IsInFullCondition gs c → is_written c cs ≡ false → gives s c ≡ true

-- at each group of a body
abbrev pub AreGiven : Patterns → State → List Part → Type 0
AreGiven t s [] = Unit {0}
AreGiven t s (call g ∷ ps) = AreGiven t (after_goal t s g) ps
AreGiven t s (group cs gs ∷ ps) = IsGroupGiven s cs gs × AreGiven t (after_goals t s gs) ps

abbrev pub AreWritten : List Part → Type 0
AreWritten [] = Unit {0}
AreWritten (call g ∷ ps) = AreWritten ps
AreWritten (group cs gs ∷ ps) = ((c : Check) → IsInFullCondition gs c → is_written c cs ≡ true) × AreWritten ps

abbrev pub IsReached : State → Type 0
IsReached Unreachable = ⊥
IsReached _ = Unit {0}

-- of a clause that isn't analysed each check is written, where it is called at all
abbrev pub IsGivenAs : Bool → Patterns → Clause → Type 0
IsGivenAs true t c = AreGiven t (entered t c) c.body
IsGivenAs false t c = IsReached (call_at t (predicate_of c.head)) → AreWritten c.body

abbrev pub IsClauseGiven : Patterns → Clause → Type 0
IsClauseGiven t c = IsGivenAs (is_analysed c) t c

abbrev pub AreGroupsGiven : Patterns → Program → Type 0
AreGroupsGiven t A = All (IsClauseGiven t) A
