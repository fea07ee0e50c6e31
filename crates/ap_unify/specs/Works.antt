-- Runs of places that are to become equal, and what a unification answers.
use Rattle.std.specs.Prelude.{◌≡◌, ℕ, zero, suc, ◌+◌, ◌*◌, Bool, true, false, List, [], ◌∷◌, ◌++◌, map}
use Rattle.ap_term.specs.Tree.{Tree}
use Rattle.ap_term.specs.Substitution.{instance, instance_all, value, one}
use Rattle.ap_term.specs.Unifier.{Unifies}
use Rattle.ap_term.specs.Vars.{occurs}
use Rattle.ap_cells.specs.Trees.{tree_at, span}
use Rattle.ap_cells.specs.Walks.{Each, weight_all}
use Rattle.ap_cells.specs.Assumed.{ArePairs}
use Rattle.ap_cells.specs.declared.pairs.Pairs.{Pairs}
use Rattle.ap_unify.specs.declared.unification.Outcome.{Outcome}
use Rattle.ap_unify.specs.declared.unification.Outcome.TheVariants.{Apart, Solved, Args}

-- under g the pairs are equal
abbrev pub SolvesRun : (ℕ → Tree) → List Tree → Pairs → Type 0
SolvesRun g ts r = instance_all g (span ts r.left r.count) ≡ instance_all g (span ts r.right r.count)

abbrev pub SolvesRuns : (ℕ → Tree) → List Tree → List Pairs → Type 0
SolvesRuns g ts rs = Each (SolvesRun g ts) rs

-- twice the weight of the pairs, and one for the run
abbrev pub weight_run : List Tree → Pairs → ℕ
weight_run ts r = 2 * (weight_all (span ts r.left r.count) + weight_all (span ts r.right r.count)) + 1

abbrev pub weight_runs : List Tree → List Pairs → ℕ
weight_runs ts [] = 0
weight_runs ts (r ∷ rs) = weight_run ts r + weight_runs ts rs

-- more turns than can be made with v unbound places and a weight w
unfoldable pub turns : ℕ → ℕ → ℕ
turns zero w = w
turns (suc v) w = w + 1 + turns v (w * w)

-- the places stand for the instances under a most general unifier of two trees
pub record Unified (ts us : List Tree) (t u : Tree) : Type 0 where
  pub by : ℕ → Tree
  pub now : us ≡ map (instance by) ts
  pub unifies : Unifies by t u
  pub general : (g : ℕ → Tree) → Unifies g t u → (x : ℕ) → instance g (by x) ≡ g x

-- what a unification answers
abbrev pub Answer : List Tree → List Tree → Tree → Tree → Bool → Type 0
Answer ts us t u true = Unified ts us t u
Answer ts us t u false = (g : ℕ → Tree) → Unifies g t u → ⊥

-- one pair solved whatever else is left to solve: `rs` before and `qs` after
pub record Step (ts us : List Tree) (rs qs : List Pairs) (p q : ℕ) : Type 0 where
  pub by : ℕ → Tree
  pub now : us ≡ map (instance by) ts
  pub finds : (g : ℕ → Tree) → SolvesRuns g ts rs → instance g (tree_at ts p) ≡ instance g (tree_at ts q) → ((x : ℕ) → instance g (by x) ≡ g x) × SolvesRuns g us qs
  pub solves : (h : ℕ → Tree) → SolvesRuns h us qs → SolvesRuns (λ x. instance h (by x)) ts rs × (instance (λ x. instance h (by x)) (tree_at ts p) ≡ instance (λ x. instance h (by x)) (tree_at ts q))

abbrev pub Stepped : List Tree → List Tree → List Pairs → List Pairs → ℕ → ℕ → Bool → Type 0
Stepped ts us rs qs p q true = Step ts us rs qs p q
Stepped ts us rs qs p q false = (g : ℕ → Tree) → instance g (tree_at ts p) ≡ instance g (tree_at ts q) → ⊥

-- whether the terms of a pair can be equal as far as was looked
abbrev pub goes_on : Outcome → Bool
goes_on Apart = false
goes_on Solved = true
goes_on (Args r) = true

abbrev pub outcome_of : Bool → Outcome
outcome_of true = Solved
outcome_of false = Apart

-- some runs, and the arguments that are left of a pair
abbrev pub with_args : Outcome → List Pairs → List Pairs
with_args Apart rs = rs
with_args Solved rs = rs
with_args (Args r) rs = rs ++ r ∷ []

-- the places of the arguments lie among the first n
abbrev pub IsLeft : ℕ → Outcome → Type 0
IsLeft n Apart = Unit {0}
IsLeft n Solved = Unit {0}
IsLeft n (Args r) = ArePairs n r

-- an unbound place bound to a tree, or not since it stands in it
abbrev pub IsBound : List Tree → List Tree → ℕ → Tree → Bool → Type 0
IsBound ts us x t true = (occurs x t ≡ false) × (us ≡ map (instance (value (one x t))) ts)
IsBound ts us x t false = occurs x t ≡ true
