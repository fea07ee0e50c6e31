-- What is known at a place of a body, and what it says of the goals there.
use Rattle.std.specs.Prelude.{Bool, true, false, if◌then◌else◌, List, [], ◌∷◌}
use Rattle.ap_term.specs.declared.clauses.Check.{Check}
use Rattle.ap_term.specs.Tree.{Tree, Trees, none, more}
use Rattle.ap_term.specs.Goals.{Part, call, group, Clause}
use Rattle.ap_absunify.specs.declared.states.State.{State}
use Rattle.ap_absunify.specs.declared.states.State.TheVariants.{Unreachable}
use Rattle.ap_patterns.specs.declared.slots.Given.{Given}
use Rattle.ap_patterns.specs.Places.{call_pattern}
use Rattle.ap_patterns.specs.Table.{predicate_of}
use Rattle.ap_patterns.specs.Given as patterns
use Rattle.ap_patterns.specs.Given.{Patterns, call_at, to_call, is_builtin, anything, is_analysed, entered}
use Rattle.ap_conditions.specs.Simplified as state
use Rattle.ap_certify.specs.declared.sights.Sight.{Sight}
use Rattle.ap_certify.specs.declared.sights.Sight.TheVariants.{Known, Unknown}

-- the pattern of a goal that is called there: any arguments, where only that the clause is called is known
abbrev pub pattern_in : Sight → Tree → State
pattern_in (Known s) goal = call_pattern s goal
pattern_in (Unknown s) goal = anything s goal

-- what a goal gives to a table that is called there
abbrev pub given_in : Sight → Tree → List Given
given_in s goal = if is_builtin goal then [] else to_call (predicate_of goal) (pattern_in s goal)

-- whether a check holds there, as far as is known
abbrev pub gives : Sight → Check → Bool
gives (Known s) c = state.gives s c
gives (Unknown Unreachable) c = true
gives (Unknown _) c = false

abbrev pub after : Patterns → Sight → Tree → Sight
after t (Known s) goal = Known (patterns.after_goal t s goal)
after t (Unknown s) goal = Unknown s

abbrev pub after_all : Patterns → Sight → Trees → Sight
after_all t s none = s
after_all t s (more g gs) = after_all t (after t s g) gs

abbrev pub after_part : Patterns → Sight → Part → Sight
after_part t s (call g) = after t s g
after_part t s (group cs gs) = after_all t s gs

abbrev pub after_parts : Patterns → Sight → List Part → Sight
after_parts t s [] = s
after_parts t s (p ∷ ps) = after_parts t (after_part t s p) ps

-- what is known where a clause is entered
abbrev pub entry_as : Bool → Patterns → Clause → Sight
entry_as true t c = Known (entered t c)
entry_as false t c = Unknown (call_at t (predicate_of c.head))

abbrev pub entry : Patterns → Clause → Sight
entry t c = entry_as (is_analysed c) t c
