use Rattle.std.proofs.Common.{w64, ◌≡◌, false, rules}
use Rattle.std.specs.Prelude.{FitsSigned, pos, Ok, ◌+ℤ◌, int_rem}
use Rattle.std.specs.Ordering.{int_eq}
use Rattle.std.proofs.lemmas.Int.{to_z-of_z}
use Rattle.ap_term.specs.Arithmetic.{same_sign, divided}
use Rattle.ap_spec.proofs.Values.{modulo-moved, sum-fits, signs-differ}
use Rattle.ap_spec.proofs.arithmetic.modulo.Goals as goal

pub returns : goal.returns
returns c =
    let r : FitsSigned w64 c.in_ok-rest.rest = search rules in
    let z : int_eq c.in_ok-rest.rest (pos 0) ≡ false = search rules in
    let signs : same_sign c.in_ok-rest.rest c.args.y ≡ false = signs-differ c.in_ok-rest.rest c.args.y r c.ranges.y c.if-rest-y.false in
    let sum : FitsSigned w64 (c.in_ok-rest.rest +ℤ c.args.y) = sum-fits c.in_ok-rest.rest c.args.y r c.ranges.y signs in
    let rest : Ok c.in_ok-rest.rest ≡ divided c.args.y (int_rem c.args.x c.args.y) = simp (to_z-of_z w64 c.args.y c.ranges.y, to_z-of_z w64 c.args.x c.ranges.x) at c.in_ok-rest.ensures in
    simp (to_z-of_z w64 c.in_ok-rest.rest r, to_z-of_z w64 c.args.y c.ranges.y, to_z-of_z w64 (c.in_ok-rest.rest +ℤ c.args.y) sum) (modulo-moved c.args.x c.args.y c.in_ok-rest.rest rest z signs sum)
