use Rattle.std.proofs.Common.{Some, ap, sym, ◌∙◌}
use Rattle.ap_instr.specs.declared.instruction.Instr.{Instr}
use Rattle.ap_index.proofs.Left.{retry-named, trust-named}
use Rattle.ap_index.proofs.rows.is_behind_try.Goals as goal

pub returns-in-Some-Retry : goal.returns-in-Some-Retry
returns-in-Some-Retry c = λ e.
    retry-named c.args.code.now c.args.at c.in-Some-Retry.field-0-0 (sym c.in-Some-Retry.ensures ∙ ap (λ (i : Instr). Some i) c.in-Some-Retry.field-0-is)

pub returns-in-Some-Trust : goal.returns-in-Some-Trust
returns-in-Some-Trust c = λ e.
    trust-named c.args.code.now c.args.at c.in-Some-Trust.field-0-0 (sym c.in-Some-Trust.ensures ∙ ap (λ (i : Instr). Some i) c.in-Some-Trust.field-0-is)
