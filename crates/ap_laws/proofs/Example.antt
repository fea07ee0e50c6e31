-- The example's definitions compute.
use Rattle.std.proofs.Common.{◌≡◌, ◌||◌, Bool, true, false, nat_eq, refl, ap}
use Rattle.std.proofs.lemmas.Bool.{false≢true}
use Rattle.ap_term.specs.Tree.{var, none, more}
use Rattle.ap_term.specs.Independence.{SharesNoVariable}
use Rattle.ap_term.proofs.Solutions.{same_var}
use Rattle.ap_laws.specs.Events.{none_yet, and_then, fork, in_first, join_first, infer, start, inside, answers, past_fresh}
use Rattle.ap_laws.specs.Example.{b, ExampleLaw}

-- the two goals share no variable
two_goals : SharesNoVariable (b (var 1)) (b (var 2))
two_goals x o = ap (λ y. nat_eq y 2 || false) (is_one (nat_eq x 1) refl o)
  where
    is_one : (c : Bool) → nat_eq x 1 ≡ c → (c || false) ≡ true → x ≡ 1
    is_one true e p = same_var x 1 e
    is_one false e p = absurd (false≢true p)

pub example : ExampleLaw
example = (
  refl,
  refl,
  refl,
  refl,
  and_then (and_then (and_then (and_then (and_then (and_then (and_then (and_then none_yet
      (fork (more (b (var 1)) (more (b (var 2)) none)) none (more (var 1) (more (var 2) none)) 3 0 refl ((two_goals, tt), (tt, tt))))
      (in_first (past_fresh start)))
      (in_first (past_fresh (inside infer))))
      (in_first (past_fresh answers)))
      (in_first start))
      (in_first (inside infer)))
      (in_first answers))
      (join_first tt),
)
