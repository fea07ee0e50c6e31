-- A unification in which pairs that were met are assumed to be equal.
use Rattle.std.specs.Prelude.{◌≡◌, ℕ, suc, ◌<◌, Bool, true, false, List, [], ◌∷◌, ◌++◌, map, Option, Some}
use Rattle.ap_term.specs.Tree.{Tree}
use Rattle.ap_term.specs.Substitution.{instance}
use Rattle.ap_term.specs.Unifier.{Unifies}
use Rattle.ap_cells.specs.Trees.{tree_at}
use Rattle.ap_cells.specs.Assumed.{ArePairs, below, AreBelow, Look}
use Rattle.ap_cells.specs.declared.pairs.Pairs.{Pairs}
use Rattle.ap_marks.specs.Classes.{Links, Agrees}
use Rattle.ap_unify.specs.Works.{Answer, SolvesRuns, weight_runs, turns}
use Rattle.ap_unify.specs.declared.unification.Progress.{Progress}
use Rattle.ap_unify.specs.declared.unification.Progress.TheVariants.{Done, Failed, Stopped}

-- the instance of a place's tree
abbrev pub known : (ℕ → Tree) → List Tree → ℕ → Option Tree
known g ts i = Some (instance g (tree_at ts i))

-- one pair solved, taken apart, or found to be assumed
pub record Turn (ts us : List Tree) (rs qs : List Pairs) (v u : Links) (p q : ℕ) : Type 0 where
  pub by : ℕ → Tree
  pub now : us ≡ map (instance by) ts
  pub finds : (g : ℕ → Tree) → SolvesRuns g ts rs → Agrees (known g ts) v → instance g (tree_at ts p) ≡ instance g (tree_at ts q) → ((x : ℕ) → instance g (by x) ≡ g x) × (SolvesRuns g us qs × Agrees (known g us) u)
  pub looks : (h : ℕ → Tree) → Look (map (instance h) us) rs qs v u p q

abbrev pub Turned : List Tree → List Tree → List Pairs → List Pairs → Links → Links → ℕ → ℕ → Bool → Type 0
Turned ts us rs qs v u p q true = Turn ts us rs qs v u p q
Turned ts us rs qs v u p q false = (g : ℕ → Tree) → instance g (tree_at ts p) ≡ instance g (tree_at ts q) → ⊥

-- on the way: the places stand for `us`, the runs are left to solve, the links are assumed
pub record Going (ts us : List Tree) (rs : List Pairs) (v : Links) (a b : ℕ) : Type 0 where
  pub by : ℕ → Tree
  pub now : us ≡ map (instance by) ts
  pub finds : (g : ℕ → Tree) → Unifies g (tree_at ts a) (tree_at ts b) → ((x : ℕ) → instance g (by x) ≡ g x) × (SolvesRuns g us rs × Agrees (known g us) v)
  pub begun : (h : ℕ → Tree) (w : ℕ) → AreBelow (map (instance h) us) w rs → Agrees (below (map (instance h) us) w) v → below (map (instance h) us) w a ≡ below (map (instance h) us) w b
  pub closes : (h : ℕ → Tree) (w : ℕ) → AreBelow (map (instance h) us) w rs → Agrees (below (map (instance h) us) w) v → Agrees (below (map (instance h) us) (suc w)) v

-- what the end of a part of the unification of a and b says, with these runs left and these links assumed
abbrev pub Tells : List Tree → List Tree → List Pairs → Links → ℕ → ℕ → Progress → Type 0
Tells ts us rs v a b Done = Answer ts us (tree_at ts a) (tree_at ts b) true
Tells ts us rs v a b Failed = Answer ts us (tree_at ts a) (tree_at ts b) false
Tells ts us rs v a b (Stopped r) = Going ts us (rs ++ r ∷ []) v a b

-- where it stopped, with f places unbound, fewer than w turns are left
abbrev pub IsLighter : ℕ → List Tree → List Pairs → Progress → ℕ → Type 0
IsLighter f us rs Done w = Unit {0}
IsLighter f us rs Failed w = Unit {0}
IsLighter f us rs (Stopped r) w = turns f (weight_runs us (rs ++ r ∷ [])) < w

-- it stopped at pairs of the first n places
abbrev pub IsStop : ℕ → Progress → Type 0
IsStop n Done = Unit {0}
IsStop n Failed = Unit {0}
IsStop n (Stopped r) = ArePairs n r
