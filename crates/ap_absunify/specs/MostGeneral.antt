-- Most general unifiers, told as functions from variables to trees.
use Rattle.std.specs.Prelude.{◌≡◌, ℕ, List, [], ◌∷◌}
use Rattle.ap_term.specs.Tree.{Tree}
use Rattle.ap_term.specs.Substitution.{instance}

-- a unifier of which each other one is an instance
abbrev pub MostGeneral : Tree → Tree → (ℕ → Tree) → Type 0
MostGeneral a b u = (instance u a ≡ instance u b) × ((f : ℕ → Tree) → instance f a ≡ instance f b → (x : ℕ) → instance f (u x) ≡ f x)

-- k makes the instances under f of both sides of each equation one tree
abbrev pub Unify_all : (ℕ → Tree) → (ℕ → Tree) → List (ℕ × Tree) → Type 0
Unify_all f k [] = Unit {0}
Unify_all f k (e ∷ es) = (instance k (f e.0) ≡ instance k (instance f e.1)) × Unify_all f k es

abbrev pub MostGeneral_all : (ℕ → Tree) → List (ℕ × Tree) → (ℕ → Tree) → Type 0
MostGeneral_all f es u = Unify_all f u es × ((k : ℕ → Tree) → Unify_all f k es → (x : ℕ) → instance k (u x) ≡ k x)
