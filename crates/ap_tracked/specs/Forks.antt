-- The groups that a search comes to.
use Rattle.std.specs.Prelude.{◌≡◌, ℕ, ◌<◌, ◌≤◌, true, ◌⊎◌, List, [], ◌∷◌, None}
use Rattle.ap_term.specs.declared.clauses.Check.{Check}
use Rattle.ap_term.specs.Tree.{Tree, Trees, none, more}
use Rattle.ap_term.specs.Vars.{occurs}
use Rattle.ap_term.specs.Substitution.{instance}
use Rattle.ap_term.specs.Goals.{Program}
use Rattle.ap_term.specs.Tuples.{arguments}
use Rattle.ap_tracked.specs.Tracked.{Goal, call, fork, Tracked, IsOneOf, children}

-- a group as its clause has it, and the instances of the clause's variables
pub record Fork : Type 0 where
  pub checks : List Check
  pub goals : Trees
  pub own : ℕ → Tree

abbrev pub IsGoalOf : Tree → Trees → Type 0
IsGoalOf g none = ⊥
IsGoalOf g (more t ts) = (g ≡ t) ⊎ IsGoalOf g ts

-- the group comes first
abbrev pub ComesFirst : Fork → List Goal → Type 0
ComesFirst f [] = ⊥
ComesFirst f (call t ∷ gs) = ⊥
ComesFirst f (fork cs ts own now ∷ gs) = f ≡ record { checks = cs; goals = ts; own = own }

-- n is above each variable of the goal
abbrev pub IsUnused : ℕ → Tree → Type 0
IsUnused n g = (x : ℕ) → occurs x g ≡ true → x < n

-- a goal alone, whose first unused variable is n
abbrev pub alone : Tree → ℕ → Tracked
alone g n = record { goals = call g ∷ []; tuple = arguments g; next = n; steps = 0; fault = None }

-- the groups that the search to depth d comes to from a state, and those that a goal of such a group comes to when it
-- is searched alone to that depth: so it runs beside a left neighbour that fails later
pub data Forks (p : Program) : Tracked → ℕ → Fork → Type 0 where
  here : {s : Tracked} {d : ℕ} {f : Fork} → s.steps ≤ d → ComesFirst f s.goals → Forks p s d f
  below : {s : Tracked} {d : ℕ} {f : Fork} (t : Tracked) → s.steps < d → IsOneOf t (children p s) → Forks p t d f → Forks p s d f
  beside : {s : Tracked} {d : ℕ} {f : Fork} (e : Fork) (g : Tree) (n : ℕ) → Forks p s d e → IsGoalOf g e.goals → IsUnused n (instance e.own g)
      → Forks p (alone (instance e.own g) n) d f → Forks p s d f
