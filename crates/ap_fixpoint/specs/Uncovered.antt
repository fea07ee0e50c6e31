-- What is given and isn't covered yet: nothing else changes a table.
use Rattle.std.specs.Prelude.{Bool, not, List, ◌++◌}
use Rattle.std.specs.List.{filter}
use Rattle.ap_term.specs.Tree.{Tree}
use Rattle.ap_term.specs.Goals.{Part}
use Rattle.ap_absunify.specs.declared.states.State.{State}
use Rattle.ap_patterns.specs.declared.slots.Given.{Given}
use Rattle.ap_patterns.specs.Places.{call_pattern}
use Rattle.ap_patterns.specs.Table.{predicate_of}
use Rattle.ap_patterns.specs.Given.{Patterns, to_success, after_body, given_by_body}
use Rattle.ap_patterns.specs.Covered.{is_covered}

-- whether the pattern that it is given to doesn't cover it
abbrev pub is_new : Patterns → Given → Bool
is_new t g = not (is_covered g.pattern (t g.slot))

abbrev pub uncovered : Patterns → List Given → List Given
uncovered t gs = filter (is_new t) gs

-- what the parts give from a state on, and the success of the head behind them
abbrev pub given_on : Patterns → Tree → State → List Part → List Given
given_on t head s ps = given_by_body t s ps ++ to_success (predicate_of head) (call_pattern (after_body t s ps) head)
