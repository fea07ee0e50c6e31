use Rattle.std.proofs.Common.{◌≡◌, ◌-◌, ◌<◌, length, slice_get, Some, ap, sym, ◌∙◌, arith}
use Rattle.std.proofs.lemmas.Option.{slice_get_within}
use Rattle.ap_needs.proofs.Behind.{ended-last}
use Rattle.ap_needs.proofs.alone.is_ended.Goals as goal

pub returns-in-Some : goal.returns-in-Some
returns-in-Some c h =
    let is = c.args.code.now.instructions in
    let last : slice_get is (length is - 1) ≡ Some c.in-Some.instr.now = ap (λ js. slice_get js (length js - 1)) (sym c.instructions.ensures) ∙ sym c.in-Some.ensures.value in
    let within : length is - 1 < length is = slice_get_within is (length is - 1) c.in-Some.instr.now last in
    ended-last is (length is - 1) c.in-Some.instr.now last (omega arith) (sym c.is_end.ensures ∙ h)
