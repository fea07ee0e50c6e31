use Rattle.std.proofs.Common.{◌≡◌, ◌+◌, ◌-◌, refl, sym, subst, arith}
use Rattle.ap_index.specs.declared.head.Passed.TheVariants.{On}
use Rattle.ap_index.specs.Heads.{IsPassed}
use Rattle.ap_index.proofs.Asking.{asks-argument}
use Rattle.ap_index.proofs.head.past_argument.Goals as goal

pub returns-in-UnifyVariable : goal.returns-in-UnifyVariable
returns-in-UnifyVariable c = λ code.
    let r = c.args.reading in
    let s = record c.written.result { left = r.left - 1 } in
    let one : r.left ≡ (r.left - 1) + 1 = omega arith in
    subst (λ i. IsPassed code i r (On s)) (sym c.in-UnifyVariable.is)
    (refl, asks-argument r s c.in-UnifyVariable.v (record { from = c.written.ensures.narrower.from; to = c.written.ensures.narrower.to }) c.written.ensures.same one)
