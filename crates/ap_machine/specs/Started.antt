-- Where a search begins.
pub use Rattle.ap_graft.specs.Uncalled.{HasName}
use Rattle.std.specs.Prelude.{◌≡◌, ℕ, ◌<◌, ◌⊎◌, [], ◌∷◌, length, slice_get, Some, None}
use Rattle.std.specs.List.{AllByRecursion}
use Rattle.ap_term.specs.declared.fixed.TheConstants.{QUERY}
use Rattle.ap_term.specs.Tree.{Trees, count_trees}
use Rattle.ap_term.specs.Goals.{Clause, Program, Query}
use Rattle.ap_term.specs.UpToNames.{SameUpToNames}
use Rattle.ap_term.specs.WellFormed.{IsQuery}
use Rattle.ap_term.specs.Search.{variables}
use Rattle.ap_term.specs.Vars.{LocalAll}
use Rattle.ap_tracked.specs.Tracked.{call, Tracked}
use Rattle.ap_graft.specs.Starts.{tracked_start}
use Rattle.ap_instr.specs.declared.compiled.Predicate.{Predicate}
use Rattle.ap_instr.specs.Code.{Compiled}
use Rattle.ap_instr.specs.Runs.{applied}
use Rattle.ap_instr.specs.StandsFor.{IsOfBuiltin, clause_places, StandsForQuery}
use Rattle.ap_standing.specs.Machine.{Machine, Now, calling, inside}
use Rattle.ap_standing.specs.Holds.{IsApart, Holds}
use Rattle.ap_machine.specs.View.{Paused, IsFor}

-- the state in which the call of a name on a tuple begins, whose variables are below a number
abbrev pub called : ℕ → Trees → ℕ → Tracked
called name ts next = record { goals = call (applied name ts) ∷ []; tuple = ts; next = next; steps = 0; fault = None }

-- The machine is at the call of a predicate on a tuple, one of clauses or a built-in goal's, and there is no other way on.
pub record IsAtCall (code : Compiled) (number : ℕ) (ts : Trees) (m : Machine) : Type 0 where
  pub points : m.points ≡ []
  pub holds : (q : Predicate) (next : ℕ) → slice_get code.predicates number ≡ Some q → IsApart q ⊎ IsOfBuiltin code q → LocalAll (λ x. x < next) ts → Holds code m (called q.name ts next ∷ [])

-- no clause is one for a name
abbrev pub NoneIsFor : ℕ → Program → Type 0
NoneIsFor a p = AllByRecursion (λ (c : Clause). HasName a c.head → ⊥) p

-- the code is for a program beside a query that is the only clause for its name
pub record IsAsked (code : Compiled) (p : Program) (q : Query) : Type 0 where
  pub is_query : IsQuery q
  pub stands : StandsForQuery code p q
  pub program : NoneIsFor QUERY p
  pub lifted : NoneIsFor QUERY q.lifted

-- the query's predicate, which has a single clause
abbrev pub IsQuestion : Compiled → ℕ → Type 0
IsQuestion code number =
    (code.query ≡ Some number) × (q : Predicate) × (slice_get code.predicates number ≡ Some q) × (at : ℕ) × (clause_places code q ≡ at ∷ [])

-- the question's code, a built-in goal's, or a call of the predicate
pub record IsFirst (code : Compiled) (number : ℕ) (now : Now) : Type 0 where
  pub calls : (IsQuestion code number → ⊥) → ((q : Predicate) → slice_get code.predicates number ≡ Some q → IsOfBuiltin code q → ⊥) → now ≡ calling number
  pub solves : (IsQuestion code number → ⊥) → (q : Predicate) → slice_get code.predicates number ≡ Some q → IsOfBuiltin code q → now ≡ inside q.start
  pub asks : (question : IsQuestion code number) → now ≡ inside question.3

-- A search for the code, on a tuple, that has made no call and may make so many. It is at the call of a predicate, or at the
-- built-in goal that the predicate is of; the query's is left out: on the query's variables it is where the query begins.
pub record Started (code : Compiled) (ts : Trees) (number rest : ℕ) (s : Paused) : Type 0 where
  pub is_for : IsFor code s
  pub spent : s.spent ≡ 0
  pub budget : s.budget ≡ rest
  pub roots : length s.machine.roots ≡ count_trees ts
  pub older : s.older ≡ []
  pub calls : (IsQuestion code number → ⊥) → IsAtCall code number ts s.machine
  pub asks : code.query ≡ Some number → (p : Program) (q : Query) → IsAsked code p q → SameUpToNames ts (variables q.question.vars) → Holds code s.machine (tracked_start q ∷ [])
