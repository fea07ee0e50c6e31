use Rattle.std.proofs.Common.{ap, sym, ◌∙◌, arith}
use Rattle.std.specs.Prelude.{not}
use Rattle.ap_term.specs.TermView.{tree_of}
use Rattle.ap_clause.specs.Clause.{is_row, body_in}
use Rattle.ap_clause.proofs.GoalRows.{is_row-node, is_row-unpaired}
use Rattle.ap_clause.proofs.clause.+is_row.Goals as goal

pub returns-in_default-as_slice : goal.returns-in_default-as_slice
returns-in_default-as_slice t c =
    is_row-unpaired c.in-Node.name c.in-Node.args c.as_slice.result.now c.as_slice.ensures (λ e. absurd (omega (arith, e, c.in_default-as_slice.len_below)))
    ∙ sym (ap (λ u. is_row (body_in (tree_of u))) c.in-Node.is)

pub returns-in_default-as_slice-2 : goal.returns-in_default-as_slice-2
returns-in_default-as_slice-2 t c =
    is_row-unpaired c.in-Node.name c.in-Node.args c.as_slice.result.now c.as_slice.ensures (λ e. absurd (omega (arith, e, c.in_default-as_slice.len_at_least)))
    ∙ sym (ap (λ u. is_row (body_in (tree_of u))) c.in-Node.is)

pub returns-in_default-connective_at : goal.returns-in_default-connective_at
returns-in_default-connective_at t c =
    ap not c.is_pair.ensures
    ∙ is_row-node c.connective_at.result c.in-Node.name c.in-Node.args (sym c.connective_at.ensures) c.in_default-connective_at.not-Other c.in_default-connective_at.not-And
    ∙ sym (ap (λ u. is_row (body_in (tree_of u))) c.in-Node.is)
