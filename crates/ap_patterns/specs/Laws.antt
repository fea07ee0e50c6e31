-- What patterns are worth.
use Rattle.std.specs.Prelude.{◌≡◌, ℕ, ◌+◌, ◌<◌, true, IsTrue, List, is_some}
use Rattle.ap_term.specs.Tree.{Tree, Trees, var, node}
use Rattle.ap_term.specs.Vars.{occurs}
use Rattle.ap_term.specs.WellFormed.{callable, numbered}
use Rattle.ap_term.specs.Substitution.{instance}
use Rattle.ap_term.specs.Builtins.{builtin}
use Rattle.ap_absunify.specs.MostGeneral.{MostGeneral}
use Rattle.ap_absunify.specs.declared.states.State.{State}
use Rattle.ap_absunify.specs.State.{Covers}
use Rattle.ap_patterns.specs.declared.entries.Mark.{Mark}
use Rattle.ap_patterns.specs.Entry.{AsMarked, marked_pattern}
use Rattle.ap_patterns.specs.Places.{arguments, argument, call_pattern}
use Rattle.ap_patterns.specs.Entering.{enter, own_after}
use Rattle.ap_patterns.specs.AfterCall.{after_call, Answers}
use Rattle.ap_patterns.specs.Given.{is_builtin}
use Rattle.ap_patterns.specs.Covered.{is_covered}

-- a call's pattern covers its arguments' instances
abbrev pub CallPatternLaw : Type 0
CallPatternLaw = (s : State) (goal : Tree) (f : ℕ → Tree) → Covers s f → Covers (call_pattern s goal) (λ j. instance f (argument 1 (arguments goal) j))

-- a clause that is entered: its head, renamed apart, was unified with the call
abbrev pub EnterLaw : Type 0
EnterLaw =
    (n next : ℕ) (goal head : Tree) (pattern : State) (u : ℕ → Tree) → IsTrue (callable goal) → IsTrue (callable head) → IsTrue (numbered n head)
    → ((w : ℕ) → occurs w goal ≡ true → w < next) → Covers pattern (argument 1 (arguments goal))
    → MostGeneral goal (instance (λ x. var (x + next)) head) u → Covers (enter n head pattern) (own_after n next u)

-- a call that has come back with an answer that its predicate's success covers
abbrev pub AfterCallLaw : Type 0
AfterCallLaw =
    (s success : State) (goal : Tree) (f k : ℕ → Tree) → Covers s f → Covers success (λ j. instance k (instance f (argument 1 (arguments goal) j)))
    → Answers (instance f (node 0 (arguments goal))) f k → Covers (after_call s goal success) (λ x. instance k (f x))

-- a query that is as an entry's marks say
abbrev pub EntryLaw : Type 0
EntryLaw = (marks : List Mark) (args : Trees) → AsMarked marks args → Covers (marked_pattern marks) (argument 1 args)

-- a pattern that covers another one covers what it does
abbrev pub CoveredLaw : Type 0
CoveredLaw = (s t : State) (f : ℕ → Tree) → is_covered s t ≡ true → Covers s f → Covers t f

-- the goals that are built in are those that have an answer by their own rules
abbrev pub BuiltinLaw : Type 0
BuiltinLaw = (goal : Tree) → is_builtin goal ≡ is_some (builtin goal)
