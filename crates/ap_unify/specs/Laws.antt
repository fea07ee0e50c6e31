-- What a unification answers, and the solution of an equation.
use Rattle.std.specs.Prelude.{◌≡◌, ℕ, List, true, false, Some, None}
use Rattle.ap_term.specs.Tree.{Tree, Trees, var}
use Rattle.ap_term.specs.Substitution.{instance, instance_all, Subst, value}
use Rattle.ap_term.specs.Unification.{mgu}
use Rattle.ap_term.specs.UpToNames.{SameUpToNames}
use Rattle.ap_unify.specs.Works.{Answer}

-- the substitutions give instances of one another by maps of variables to variables, so every tuple has the same
-- instance under both up to names
pub record SameSubstitution (f g : ℕ → Tree) : Type 0 where
  pub there : (r : ℕ → ℕ) × ((x : ℕ) → g x ≡ instance (λ y. var (r y)) (f x))
  pub back : (r : ℕ → ℕ) × ((x : ℕ) → f x ≡ instance (λ y. var (r y)) (g x))
  pub tuples : (ts : Trees) → SameUpToNames (instance_all f ts) (instance_all g ts)

-- a solution and the substitution of a unification
abbrev pub IsSolution : Tree → Tree → (ℕ → Tree) → Type 0
IsSolution t u by = (s : Subst) × ((mgu t u ≡ Some s) × SameSubstitution by (value s))

-- where a unification succeeds, the equation has a solution, and that is the substitution up to names; where it fails,
-- there is none
pub record SolutionLaw : Type 0 where
  pub succeeds : (ts us : List Tree) (t u : Tree) → (a : Answer ts us t u true) → IsSolution t u a.by
  pub fails : (ts us : List Tree) (t u : Tree) → Answer ts us t u false → mgu t u ≡ None
