-- Groups with the checks that they want.
use Rattle.std.specs.Prelude.{Bool, not, if◌then◌else◌, List, [], ◌∷◌, ◌++◌}
use Rattle.std.specs.List.{filter}
use Rattle.ap_term.specs.declared.clauses.Check.{Check}
use Rattle.ap_term.specs.Tree.{Trees}
use Rattle.ap_term.specs.Goals.{Part, call, group, Clause}
use Rattle.ap_absunify.specs.declared.states.State.{State}
use Rattle.ap_absunify.specs.declared.states.State.TheVariants.{Unreachable, Reachable}
use Rattle.ap_patterns.specs.Given.{Patterns, call_at, after_part, is_analysed, entered, any_pattern}
use Rattle.ap_patterns.specs.Table.{predicate_of}
use Rattle.ap_conditions.specs.FullCondition.{full_condition}
use Rattle.ap_conditions.specs.Simplified.{left}
use Rattle.ap_certify.specs.Written.{is_written}

-- the checks of the full condition that are neither written nor given by the state
abbrev pub missing : State → List Check → Trees → List Check
missing s cs gs = filter (λ c. not (is_written c cs)) (left s (full_condition gs))

-- the written checks stay first
abbrev pub completed : State → Part → Part
completed s (call g) = call g
completed s (group cs gs) = group (cs ++ missing s cs gs) gs

-- what is known in a clause that isn't analysed: nothing, where it is called at all
abbrev pub unknown : State → State
unknown Unreachable = Unreachable
unknown (Reachable sh fr) = any_pattern 255

-- the state in which a clause begins
abbrev pub start : Patterns → Clause → State
start t c = if is_analysed c then entered t c else unknown (call_at t (predicate_of c.head))

-- the state behind a part; of a clause that isn't analysed nothing more comes to be known
abbrev pub behind : Bool → Patterns → State → Part → State
behind analysed t s p = if analysed then after_part t s p else s

abbrev pub completed_body : Bool → Patterns → State → List Part → List Part
completed_body analysed t s [] = []
completed_body analysed t s (p ∷ ps) = completed s p ∷ completed_body analysed t (behind analysed t s p) ps
