-- Which states of the model a machine stands for.
use Rattle.std.specs.Prelude.{◌≡◌, ℕ, zero, suc, List, [], ◌∷◌, ◌++◌, slice_get, Option, Some, None}
use Rattle.std.specs.List.{AllZip, AllByRecursion}
use Rattle.ap_tracked.specs.Sets.{SameSet, IsSetOf}
use Rattle.ap_term.specs.Tree.{Tree, Trees, atom, node, none, more, count_trees}
use Rattle.ap_term.specs.Goals.{Program}
use Rattle.ap_term.specs.WellFormed.{IsProgram}
use Rattle.ap_term.specs.Builtins.{builtin}
use Rattle.ap_tracked.specs.Tracked.{Goal, call, fork, Tracked, children}
use Rattle.ap_tracked.specs.Instances.{Inst}
use Rattle.ap_graft.specs.Variables.{IsTrackedBelow}
use Rattle.ap_instr.specs.declared.compiled.Predicate.{Predicate}
use Rattle.ap_instr.specs.Code.{Compiled}
use Rattle.ap_instr.specs.Steps.{steps_from}
use Rattle.ap_instr.specs.Runs.{applied, IsOpen, AsksOpenly}
use Rattle.ap_instr.specs.StandsFor.{ReadsAt}
use Rattle.ap_match.specs.Fits.{Fits}
use Rattle.ap_steps.specs.Moves.{held}
use Rattle.ap_steps.specs.Standing.{Return, Standing, Waits, AtCall, InCode, IsHead}
use Rattle.ap_standing.specs.Machine.{Point, Now, calling, inside, returning, failed, Machine, standing, standing_at, places}

-- ---- goals and tuples

-- a clause has ended
abbrev pub AtReturn : Compiled → Standing → Trees → Trees → Type 0
AtReturn code s gs t = (k : ℕ → Tree) × Fits s.cells k × Waits code s.returns s.roots k gs t

-- a call of a predicate of the table
abbrev pub AtCallOf : Compiled → Standing → List ℕ → Option Predicate → Trees → Trees → Type 0
AtCallOf code s x None gs t = ⊥
AtCallOf code s x (Some q) gs t = AtCall code s (held x) q.name q.arity gs t

-- the goals and tuples that the machine is at
abbrev pub SetAt : Compiled → Standing → List ℕ → List ℕ → Now → Trees → Trees → Type 0
SetAt code s x y (calling number) = AtCallOf code s x (slice_get code.predicates number)
SetAt code s x y (inside at) = InCode code s (held x) (held y) (steps_from code at)
SetAt code s x y returning = AtReturn code s
SetAt code s x y failed = λ gs t. ⊥

abbrev pub SetOf : Compiled → Machine → Trees → Trees → Type 0
SetOf code m = SetAt code (standing m) m.x m.y m.now

-- ---- what is known of the code

-- it isn't the predicate of built-in goals
abbrev pub IsApart : Predicate → Type 0
IsApart q = (ts : Trees) → count_trees ts ≡ q.arity → builtin (applied q.name ts) ≡ None

-- the code tests nothing behind a goal; no built-in goal is called as a predicate
abbrev pub IsOpenAt : Compiled → Now → Type 0
IsOpenAt code (calling number) = (q : Predicate) → slice_get code.predicates number ≡ Some q → IsApart q
IsOpenAt code (inside at) = AsksOpenly (steps_from code at)
IsOpenAt code _ = Unit {0}

abbrev pub AreOpen : Compiled → List Return → Type 0
AreOpen code [] = Unit {0}
AreOpen code (w ∷ ws) = IsOpen (steps_from code w.place) × AsksOpenly (steps_from code w.place) × AreOpen code ws

-- ---- states

-- an atom or a compound, as all goals are; no mark is
abbrev pub IsNamed : Tree → Type 0
IsNamed (atom a) = Unit {0}
IsNamed (node a ts) = Unit {0}
IsNamed t = ⊥

abbrev pub AllNamed : Trees → Type 0
AllNamed none = Unit {0}
AllNamed (more t ts) = IsNamed t × AllNamed ts

abbrev pub IsNamedGoal : Goal → Type 0
IsNamedGoal (call t) = IsNamed t
IsNamedGoal (fork cs ts own now) = AllNamed ts

abbrev pub AreNamed : List Goal → Type 0
AreNamed gs = AllByRecursion IsNamedGoal gs

-- variables below the first unused one, groups that have goals, goals that aren't marks, and no fault
abbrev pub IsPlain : Tracked → Type 0
IsPlain s = IsTrackedBelow s × AreNamed s.goals × (s.fault ≡ None)

-- The state that a choice point came from, and the clauses that are still to be tried on its first goal.
pub record Untried (code : Compiled) (roots : List ℕ) (q : Point) (ls : List ℕ) : Type 0 where
  pub predicate : Predicate
  pub state : Tracked
  pub goal : Tree
  pub rest : List Goal
  pub clauses : Program
  pub known : slice_get code.predicates q.predicate ≡ Some predicate
  pub same : SameSet (AtCall code (standing_at roots q) (held q.arguments) predicate.name predicate.arity) (Inst state)
  pub plain : IsPlain state
  pub first : state.goals ≡ call goal ∷ rest
  pub ordinary : builtin goal ≡ None
  pub heads : AllByRecursion (λ c. IsHead c.head predicate.name predicate.arity) clauses
  pub good : IsProgram clauses
  pub reads : AllZip (ReadsAt code) ls clauses
  pub open_returns : AreOpen code q.returns

-- The states that choice points stand for, from the newest one on: of each the children of its state by the clauses
-- that are left.
abbrev pub HoldsPoints : Compiled → List ℕ → List Point → List Tracked → Type 0
HoldsPoints code roots [] ss = ss ≡ []
HoldsPoints code roots (q ∷ qs) ss =
    (u : Untried code roots q (places code q)) × (left : List Tracked) × HoldsPoints code roots qs left × (ss ≡ children u.clauses u.state ++ left)

-- the same, where of the newest one the clauses at these places are left
abbrev pub HoldsRest : Compiled → List ℕ → Point → List ℕ → List Point → List Tracked → Type 0
HoldsRest code roots q ls qs ss =
    (u : Untried code roots q ls) × (left : List Tracked) × HoldsPoints code roots qs left × (ss ≡ children u.clauses u.state ++ left)

-- The machine stands for the model's list of states: the first state, if there is one, has the goals and tuples that the
-- machine is at, and the others are those of the choice points.
abbrev pub Holds : Compiled → Machine → List Tracked → Type 0
Holds code m ss =
    (here : List Tracked) × (left : List Tracked) × IsSetOf (SetOf code m) here × AllByRecursion IsPlain here × IsOpenAt code m.now × AreOpen code m.returns
    × HoldsPoints code m.roots m.points left × (ss ≡ here ++ left)

-- ---- turns of the model

-- So many first states, none of which is an answer, were replaced by their children one after another.
abbrev pub Turned : Program → ℕ → List Tracked → List Tracked → Type 0
Turned p zero ss ts = ts ≡ ss
Turned p (suc n) [] ts = ⊥
Turned p (suc n) (s ∷ ss) ts = (s.goals ≡ [] → ⊥) × Turned p n (children p s ++ ss) ts
