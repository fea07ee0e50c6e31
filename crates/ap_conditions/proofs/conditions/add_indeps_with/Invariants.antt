use Rattle.std.proofs.Common.{◌≡◌, ◌++◌, ◌&&◌, nat_lt, map}
use Rattle.std.specs.List.{filter}
use Rattle.ap_term.specs.declared.clauses.Check.TheVariants.{Indep}
use Rattle.ap_sharing.specs.VarSet.{has}
use Rattle.ap_conditions.specs.FullCondition.{numbers}
use Rattle.ap_conditions.proofs.conditions.add_indeps_with.Given as goal

abbrev pub invariant-loop-y : goal.invariant-loop-y
invariant-loop-y l = l.out ≡ l.initial.out ++ map (Indep l.x) (filter (λ y. nat_lt l.x y && has l.partners y) (numbers l.y))
