-- What the values of the code stand for: states, the goals behind one, the clauses that a search uses.
use Rattle.std.specs.Prelude.{Option, None, Some, List, [], ◌∷◌, ◌++◌, map}
use Rattle.ap_spec.specs.declared.states.State.{State}
use Rattle.std.specs.Borrow.{Bor}
use Rattle.ap_spec.specs.declared.states.Behind.{Behind}
use Rattle.ap_spec.specs.declared.states.Rules.{Rules}
use Rattle.ap_term.specs.TermView.{trees_of}
use Rattle.ap_term.specs.GoalView.{part_of}
use Rattle.ap_term.specs.Goals.{Part, Clause, Query, calls, joined}
use Rattle.ap_term.specs.Search as search

abbrev pub state_of : State → search.State
state_of s = record { goals = s.goals; tuple = s.tuple; next = s.next; steps = s.steps; fault = s.fault }

-- a state that was taken from the front of others, and one from behind them; none where none was left
abbrev pub taken_before : Option State → List search.State → List search.State
taken_before None ss = []
taken_before (Some s) ss = state_of s ∷ ss

abbrev pub taken_behind : List search.State → Option State → List search.State
taken_behind ss None = []
taken_behind ss (Some s) = ss ++ state_of s ∷ []

abbrev pub behind_of : Behind → List Part
behind_of b = calls (trees_of b.calls.now) ++ map part_of b.parts.now

-- the clauses of a program, and behind them a query's
abbrev pub with_query : List Clause → Option (Bor Query) → List Clause
with_query p None = p
with_query p (Some q) = joined p q.now

abbrev pub rules_of : Rules → List Clause
rules_of r = with_query r.program.now r.query
