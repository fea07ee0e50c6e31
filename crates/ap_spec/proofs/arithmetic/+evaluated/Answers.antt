use Rattle.std.proofs.Common.{sym, ap, ◌∙◌}
use Rattle.ap_term.specs.Tree.{node}
use Rattle.ap_term.specs.TermView.{tree_of}
use Rattle.ap_term.specs.Arithmetic.{evaluated}
use Rattle.ap_spec.proofs.Values.{evaluated-many}
use Rattle.ap_spec.proofs.arithmetic.+evaluated.Goals as goal

pub returns-in_default-2 : goal.returns-in_default-2
returns-in_default-2 t c =
    sym (ap (λ u. evaluated (tree_of u)) c.in-Node.is ∙ ap (λ ts. evaluated (node c.in-Node.name ts)) (sym c.as_slice.ensures)
    ∙ evaluated-many c.in-Node.name c.as_slice.result.now c.in_default.len_at_least)
