-- What a state leaves of a list of checks.
use Rattle.std.specs.Prelude.{ℕ, Bool, true, false, not, if◌then◌else◌, List}
use Rattle.std.specs.List.{filter, list_any}
use Rattle.ap_term.specs.declared.clauses.Check.{Check}
use Rattle.ap_term.specs.declared.clauses.Check.TheVariants.{Ground, Indep}
use Rattle.ap_sharing.specs.VarSet.{has}
use Rattle.ap_sharing.specs.Share.{Share, nonground, may_share}
use Rattle.ap_absunify.specs.declared.states.State.{State}
use Rattle.ap_absunify.specs.declared.states.State.TheVariants.{Unreachable, Reachable}
use Rattle.ap_conditions.specs.declared.simplifications.Simplified.{Simplified}
use Rattle.ap_conditions.specs.declared.simplifications.Simplified.TheVariants.{Keep, NeverTrue}

abbrev pub share_gives : Share → Check → Bool
share_gives sh (Ground x) = not (has (nonground sh) x)
share_gives sh (Indep x y) = not (may_share sh x y)

-- whether a check asks for a free variable to be ground
abbrev pub asks_of_free : ℕ → Check → Bool
asks_of_free fr (Ground x) = has fr x
asks_of_free fr (Indep x y) = false

-- whether a check holds wherever the state is covered
abbrev pub gives : State → Check → Bool
gives Unreachable c = true
gives (Reachable sh fr) c = share_gives sh c

-- whether a check holds nowhere
abbrev pub never : State → Check → Bool
never Unreachable c = false
never (Reachable sh fr) c = asks_of_free fr c

-- the checks that the state doesn't give
abbrev pub left : State → List Check → List Check
left s cs = filter (λ c. not (gives s c)) cs

abbrev pub simplified : List Check → State → Simplified
simplified cs s = if list_any (never s) cs then NeverTrue else Keep (left s cs)
