use Rattle.std.proofs.Common.{Some, ◌∷◌, [], ap, sym, ◌∙◌}
use Rattle.ap_instr.specs.declared.instruction.Instr.{Instr}
use Rattle.ap_index.proofs.Left.{trust-last, same-place}
use Rattle.ap_index.proofs.rows.last_clause.Goals as goal

pub returns-in-Some-Trust : goal.returns-in-Some-Trust
returns-in-Some-Trust c = λ one e.
    let it = c.in-Some-Trust in
    trust-last c.args.code.now c.args.at it.clause (sym it.ensures ∙ ap (λ (i : Instr). Some i) it.field-0-is) ∙ ap (λ k. k ∷ []) (sym (same-place it.clause one e))
