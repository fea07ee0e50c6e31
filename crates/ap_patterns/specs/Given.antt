-- What the clauses of a program give to the patterns of a table: the calls of their goals, and their successes.
pub use Rattle.ap_term.specs.Builtins.{is_builtin}
use Rattle.std.specs.Prelude.{ℕ, Bool, nat_le, ◌+◌, if◌then◌else◌, List, [], ◌∷◌, ◌++◌, Option, Some, None}
use Rattle.std.specs.List.{flat_map}
use Rattle.ap_term.specs.declared.fixed.TheConstants.{QUERY}
use Rattle.ap_term.specs.Tree.{Tree, Trees, none, more, count_trees}
use Rattle.ap_term.specs.Goals.{Part, call, group, Clause, Program}
use Rattle.ap_sharing.specs.VarSet.{empty}
use Rattle.ap_absunify.specs.declared.states.State.{State}
use Rattle.ap_absunify.specs.declared.states.State.TheVariants.{Unreachable, Reachable}
use Rattle.ap_absunify.specs.AfterBuiltin.{after_builtin}
use Rattle.ap_patterns.specs.declared.tables.Predicate.{Predicate}
use Rattle.ap_patterns.specs.declared.tables.Row.{Row}
use Rattle.ap_patterns.specs.declared.slots.Slot.{Slot}
use Rattle.ap_patterns.specs.declared.slots.Slot.TheVariants.{Call, Success}
use Rattle.ap_patterns.specs.declared.slots.Given.{Given}
use Rattle.ap_patterns.specs.declared.entries.Entries.{Entries}
use Rattle.ap_patterns.specs.declared.entries.Entries.TheVariants.{All, One, Query}
use Rattle.ap_patterns.specs.Places.{arguments, call_pattern}
use Rattle.ap_patterns.specs.Entering.{own, enter}
use Rattle.ap_patterns.specs.AfterCall.{after_call}
use Rattle.ap_patterns.specs.Entry.{marked_pattern}
use Rattle.ap_patterns.specs.Table.{predicate_of, calls, successes}

-- the pattern in each slot
abbrev pub Patterns : Type 0
Patterns = Slot → State

abbrev pub patterns : List Row → Patterns
patterns rs (Call p) = calls rs p
patterns rs (Success p) = successes rs p

-- the pattern of a predicate's calls, and that of its answers; what is no predicate is never called
abbrev pub call_at : Patterns → Option Predicate → State
call_at t None = Unreachable
call_at t (Some p) = t (Call p)

abbrev pub success_at : Patterns → Option Predicate → State
success_at t None = Unreachable
success_at t (Some p) = t (Success p)

abbrev pub to_call : Option Predicate → State → List Given
to_call None s = []
to_call (Some p) s = record { slot = Call p; pattern = s } ∷ []

abbrev pub to_success : Option Predicate → State → List Given
to_success None s = []
to_success (Some p) s = record { slot = Success p; pattern = s } ∷ []

-- the state after a goal
abbrev pub after_goal : Patterns → State → Tree → State
after_goal t s goal = if is_builtin goal then after_builtin s goal else after_call s goal (success_at t (predicate_of goal))

-- what a goal gives that is called in a state
abbrev pub given_by_goal : State → Tree → List Given
given_by_goal s goal = if is_builtin goal then [] else to_call (predicate_of goal) (call_pattern s goal)

-- ---- groups and bodies

abbrev pub after_goals : Patterns → State → Trees → State
after_goals t s none = s
after_goals t s (more g gs) = after_goals t (after_goal t s g) gs

-- each goal called from the state after those to its left
abbrev pub given_in_turn : Patterns → State → Trees → List Given
given_in_turn t s none = []
given_in_turn t s (more g gs) = given_by_goal s g ++ given_in_turn t (after_goal t s g) gs

-- each goal called from the state at the fork
abbrev pub given_at_fork : State → Trees → List Given
given_at_fork s none = []
given_at_fork s (more g gs) = given_by_goal s g ++ given_at_fork s gs

-- the written checks of a group say nothing; the state after it is that after its goals one after another
abbrev pub after_part : Patterns → State → Part → State
after_part t s (call g) = after_goal t s g
after_part t s (group cs gs) = after_goals t s gs

abbrev pub given_by_part : Patterns → State → Part → List Given
given_by_part t s (call g) = given_by_goal s g
given_by_part t s (group cs gs) = given_at_fork s gs ++ given_in_turn t s gs

abbrev pub after_body : Patterns → State → List Part → State
after_body t s [] = s
after_body t s (p ∷ ps) = after_body t (after_part t s p) ps

abbrev pub given_by_body : Patterns → State → List Part → List Given
given_by_body t s [] = []
given_by_body t s (p ∷ ps) = given_by_part t s p ++ given_by_body t (after_part t s p) ps

-- ---- clauses

-- whether the variables and the head's arguments are few enough for a state of the clause
abbrev pub is_analysed : Clause → Bool
is_analysed c = nat_le (c.vars + count_trees (arguments c.head)) 64

-- the state in which a clause is entered, of the pattern of its predicate's calls
abbrev pub entered : Patterns → Clause → State
entered t c = enter c.vars c.head (call_at t (predicate_of c.head))

abbrev pub given_from : Patterns → State → Clause → List Given
given_from t s c = given_by_body t s c.body ++ to_success (predicate_of c.head) (call_pattern (after_body t s c.body) c.head)

-- what is known of the arguments of a call that may have any
abbrev pub any_pattern : ℕ → State
any_pattern n = Reachable (record { sets = []; any = own n }) empty

abbrev pub anything : State → Tree → State
anything Unreachable goal = Unreachable
anything (Reachable sh fr) goal = any_pattern (count_trees (arguments goal))

abbrev pub given_anyhow : State → Tree → List Given
given_anyhow s goal = if is_builtin goal then [] else to_call (predicate_of goal) (anything s goal)

abbrev pub given_by_all : State → Trees → List Given
given_by_all s none = []
given_by_all s (more g gs) = given_anyhow s g ++ given_by_all s gs

abbrev pub given_by_any_part : State → Part → List Given
given_by_any_part s (call g) = given_anyhow s g
given_by_any_part s (group cs gs) = given_by_all s gs

-- a clause that isn't analysed: where it is called at all, its goals are called with anything, and it answers anything
abbrev pub given_unanalysed : State → Clause → List Given
given_unanalysed s c = flat_map (given_by_any_part s) c.body ++ to_success (predicate_of c.head) (anything s c.head)

abbrev pub given_by_clause : Patterns → Clause → List Given
given_by_clause t c = if is_analysed c then given_from t (entered t c) c else given_unanalysed (call_at t (predicate_of c.head)) c

-- ---- programs

-- a call of each predicate that has a clause
abbrev pub given_by_heads : Program → List Given
given_by_heads A = flat_map (λ c. to_call (predicate_of c.head) (any_pattern (count_trees (arguments c.head)))) A

-- the calls with which a program is entered
abbrev pub given_by_entries : Entries → Program → List Given
given_by_entries All A = given_by_heads A
given_by_entries (One e) A = record { slot = Call e.predicate; pattern = marked_pattern e.marks.items } ∷ []
given_by_entries Query A = record { slot = Call (record { name = QUERY; arity = 0 }); pattern = any_pattern 0 } ∷ []

-- all that is given to the patterns of a table, by the entries and by each clause
abbrev pub given : Entries → Program → Patterns → List Given
given E A t = given_by_entries E A ++ flat_map (given_by_clause t) A
