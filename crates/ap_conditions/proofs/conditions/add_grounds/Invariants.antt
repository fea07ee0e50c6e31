use Rattle.std.proofs.Common.{◌≡◌, ◌++◌, map}
use Rattle.std.specs.List.{filter}
use Rattle.ap_term.specs.declared.clauses.Check.TheVariants.{Ground}
use Rattle.ap_sharing.specs.VarSet.{has}
use Rattle.ap_conditions.specs.FullCondition.{numbers}
use Rattle.ap_conditions.proofs.conditions.add_grounds.Given as goal

abbrev pub invariant-loop-x : goal.invariant-loop-x
invariant-loop-x l = l.out ≡ l.initial.out ++ map Ground (filter (λ x. has l.shared x) (numbers l.x))
