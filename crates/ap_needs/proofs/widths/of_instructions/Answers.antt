use Rattle.std.proofs.Common.{drop, subst, arith}
use Rattle.ap_needs.specs.Needs.{AllHaveTargets}
use Rattle.ap_needs.proofs.Targets.{all-from}
use Rattle.ap_needs.proofs.widths.of_instructions.Goals as goal

pub returns : goal.returns
returns c = λ at xs ys behind hx hy.
    subst (λ is. AllHaveTargets (drop at is) xs ys) c.instructions-instructions.ensures
    (all-from c.instructions-instructions.result.now at xs ys (λ k d a l. c.loop-place.invariant k d xs ys (omega arith) (omega (arith, c.loop-place-test.false)) hx hy))
