use Rattle.std.proofs.Common.{◌≡◌, ◌+◌, ap, sym, ◌∙◌, Some, slice_get}
use Rattle.ap_instr.specs.declared.instruction.Instr.TheVariants.{Deallocate, Proceed}
use Rattle.ap_machine.proofs.Transfers.{ends-here}
use Rattle.ap_machine.proofs.control.ends_behind.Goals as goal

pub returns-in-Some-Proceed : goal.returns-in-Some-Proceed
returns-in-Some-Proceed c = λ so.
    let code = c.args.code.now in
    let next = c.behind-next.ensures in
    let first : slice_get code.instructions (c.args.at + 1) ≡ Some Deallocate = ap (slice_get code.instructions) (sym next) ∙ sym c.instruction_at.ensures ∙ c.in-Some-Deallocate.is ∙ ap Some c.in-Some-Deallocate.field-0-is in
    let second : slice_get code.instructions (c.args.at + 1 + 1) ≡ Some Proceed = ap (slice_get code.instructions) (ap (λ n. n + 1) (sym next) ∙ sym c.behind.ensures) ∙ sym c.instruction_at-in-Some-Deallocate.ensures ∙ c.in-Some-Proceed.is ∙ ap Some c.in-Some-Proceed.field-0-is in
    ends-here code (c.args.at + 1) first second
