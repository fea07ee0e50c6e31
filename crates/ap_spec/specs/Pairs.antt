-- The pair that a binding stands for.
use Rattle.std.specs.Prelude.{ℕ, Bool, true, false, Option, Some, None, [], ◌∷◌, ◌++◌}
use Rattle.ap_term.specs.Unification.{Equations}
use Rattle.ap_spec.specs.declared.substitutions.Binding.{Binding}
use Rattle.ap_spec.specs.declared.substitutions.One.{One}
use Rattle.ap_term.specs.Substitution.{value, one}
use Rattle.ap_term.specs.Tree.{Tree}
use Rattle.ap_term.specs.TermView.{tree_of}

abbrev pub pair_of : Binding → ℕ × Tree
pair_of b = (b.variable, tree_of b.term)

-- the equations, where there was no clash
abbrev pub answered : Bool → Equations → Option Equations
answered true es = Some es
answered false es = None

-- what the substitution of one variable gives
abbrev pub bound_by : One → ℕ → Tree
bound_by s = value (one s.binding.now.variable (tree_of s.binding.now.term))

-- an equation that was taken from the front of others, and one from behind them; none where none was left
abbrev pub taken_before : Option Binding → Equations → Equations
taken_before None es = []
taken_before (Some b) es = pair_of b ∷ es

abbrev pub taken_behind : Equations → Option Binding → Equations
taken_behind es None = []
taken_behind es (Some b) = es ++ pair_of b ∷ []
