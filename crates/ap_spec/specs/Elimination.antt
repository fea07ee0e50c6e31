-- Solving equations in two halves: the equations by which variables are bound, one after another, and then the
-- solution from the last one back.
use Rattle.std.specs.Prelude.{ℕ, zero, suc, [], ◌∷◌, if◌then◌else◌, Option, Some, None, option_and_then, option_map}
use Rattle.ap_term.specs.Vars.{occurs}
use Rattle.ap_term.specs.Substitution.{Subst, value, one}
use Rattle.ap_term.specs.Unification.{Equations, replaced_by, grown}

-- the equations that bind a variable each, none of it left in those behind
abbrev pub eliminated : ℕ → Equations → Option Equations
eliminated zero [] = Some []
eliminated zero (e ∷ es) = None
eliminated (suc n) [] = Some []
eliminated (suc n) (e ∷ es) =
    if occurs e.0 e.1
    then None
    else option_and_then (λ ds. option_map (λ bs. e ∷ bs) (eliminated n ds)) (replaced_by (value (one e.0 e.1)) es)

-- a solution before which these equations bind their variables
abbrev pub resolved : Equations → Subst → Subst
resolved [] s = s
resolved (e ∷ es) s = grown e (resolved es s)
