use Rattle.std.proofs.Common.{Some, ap, sym, ◌∙◌}
use Rattle.ap_instr.specs.declared.instruction.Instr.{Instr}
use Rattle.ap_index.proofs.Left.{try-names, retry-names, trust-names}
use Rattle.ap_index.proofs.choice.named_at.Goals as goal

pub returns-in-Some-Try : goal.returns-in-Some-Try
returns-in-Some-Try c = try-names c.args.code.now c.args.at c.in-Some-Try.place (sym c.in-Some-Try.ensures ∙ ap (λ (i : Instr). Some i) c.in-Some-Try.field-0-is)

pub returns-in-Some-Retry : goal.returns-in-Some-Retry
returns-in-Some-Retry c = retry-names c.args.code.now c.args.at c.in-Some-Retry.place (sym c.in-Some-Retry.ensures ∙ ap (λ (i : Instr). Some i) c.in-Some-Retry.field-0-is)

pub returns-in-Some-Trust : goal.returns-in-Some-Trust
returns-in-Some-Trust c = trust-names c.args.code.now c.args.at c.in-Some-Trust.place (sym c.in-Some-Trust.ensures ∙ ap (λ (i : Instr). Some i) c.in-Some-Trust.field-0-is)
