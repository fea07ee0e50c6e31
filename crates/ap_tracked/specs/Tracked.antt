-- States of the search that keep beside each group its clause's text and the instances of its clause's variables. Without
-- these it is a state of the search.
pub use Rattle.ap_term.specs.Lists.{IsOneOf}
use Rattle.std.specs.Prelude.{ℕ, ◌+◌, List, [], ◌∷◌, ◌++◌, map, if◌then◌else◌, Option, Some, None}
use Rattle.std.specs.List.{flat_map}
use Rattle.ap_term.specs.declared.clauses.Check.{Check}
use Rattle.ap_term.specs.Tree.{Tree, Trees, var, atom, none, more}
use Rattle.ap_term.specs.Substitution.{instance, instance_all, Subst, value, shift}
use Rattle.ap_term.specs.Unification.{mgu}
use Rattle.ap_term.specs.WellFormed.{in_range}
use Rattle.ap_term.specs.Builtins.{builtin}
use Rattle.ap_term.specs.Goals as goals
use Rattle.ap_term.specs.Goals.{Clause, Program, instance_check}
use Rattle.ap_term.specs.declared.faults.Fault.{Fault}
use Rattle.ap_term.specs.Faults.{fault_of}
use Rattle.ap_term.specs.Search.{State}

-- a goal, or a group's checks and goals as its clause has them, the instances of the clause's variables, and what has
-- become of the checks
pub data Goal : Type 0 where
  call : Tree → Goal
  fork : List Check → Trees → (ℕ → Tree) → List Check → Goal

-- the goal that a search without instances has
abbrev pub untracked_goal : Goal → goals.Part
untracked_goal (call t) = goals.call t
untracked_goal (fork cs ts f now) = goals.group now (instance_all f ts)

abbrev pub moved : (ℕ → Tree) → Goal → Goal
moved u (call t) = call (instance u t)
moved u (fork cs ts f now) = fork cs ts (λ x. instance u (f x)) (flat_map (instance_check u) now)

-- a clause's variables, which are numbered from 1 to n, moved up; beside them there is none
abbrev pub renamed : ℕ → ℕ → ℕ → Tree
renamed n next x = if in_range n x then var (x + next) else atom 0

-- a part of a body, f giving the instances of the clause's variables
abbrev pub placed : (ℕ → Tree) → goals.Part → Goal
placed f (goals.call t) = call (instance f t)
placed f (goals.group cs ts) = fork cs ts f (flat_map (instance_check f) cs)

abbrev pub calls : (ℕ → Tree) → Trees → List Goal
calls f none = []
calls f (more t ts) = call (instance f t) ∷ calls f ts

-- the goals with the groups that come first as conjunctions
abbrev pub opened : List Goal → List Goal
opened [] = []
opened (call t ∷ gs) = call t ∷ gs
opened (fork cs none f now ∷ gs) = opened gs
opened (fork cs (more t ts) f now ∷ gs) = call (instance f t) ∷ (calls f ts ++ gs)

-- the goals left, the instance of the query's variables, the first unused variable, the calls made on the way, and the
-- fault that the last of them met
pub record Tracked : Type 0 where
  pub goals : List Goal
  pub tuple : Trees
  pub next : ℕ
  pub steps : ℕ
  pub fault : Option Fault

abbrev pub untracked : Tracked → State
untracked s = record { goals = map untracked_goal s.goals; tuple = s.tuple; next = s.next; steps = s.steps; fault = s.fault }

abbrev pub child_if : Tracked → List Goal → Option Subst → List Goal → ℕ → List Tracked
child_if s rest None body takes = []
child_if s rest (Some b) body takes = record {
  goals = map (moved (value b)) (body ++ rest);
  tuple = instance_all (value b) s.tuple;
  next = s.next + takes;
  steps = s.steps + 1;
  fault = None;
} ∷ []

abbrev pub clause_children : Tracked → Tree → List Goal → Clause → List Tracked
clause_children s g rest c = child_if s rest (mgu g (instance (shift s.next) c.head)) (map (placed (renamed c.vars s.next)) c.body) (c.vars + 1)

abbrev pub call_children : Program → Tracked → Tree → List Goal → Option (Option Subst) → List Tracked
call_children p s g rest None = flat_map (clause_children s g rest) p
call_children p s g rest (Some answer) = child_if s rest answer [] 0

-- the state to which a goal's fault leads
abbrev pub faulted_child : Fault → Tracked → Tracked
faulted_child e s = record { goals = []; tuple = instance_all (value []) s.tuple; next = s.next + 0; steps = s.steps + 1; fault = Some e }

abbrev pub children_unless : Option Fault → Tracked → List Tracked → List Tracked
children_unless None s ss = ss
children_unless (Some e) s ss = faulted_child e s ∷ []

abbrev pub children_by : Program → Tracked → List Goal → List Tracked
children_by p s [] = []
children_by p s (call g ∷ rest) = children_unless (fault_of g) s (call_children p s g rest (builtin g))
children_by p s (fork cs ts f now ∷ rest) = []

-- the states that the first goal's call leads to; groups that come first are read as conjunctions
abbrev pub children : Program → Tracked → List Tracked
children p s = children_by p s (opened s.goals)
