use Rattle.std.proofs.Common.{◌≡◌, [], ◌++◌, sym, ap, ◌∙◌}
use Rattle.std.proofs.lemmas.List.{append-nil}
use Rattle.ap_term.specs.Tree.{node}
use Rattle.ap_term.specs.TermView.{tree_of}
use Rattle.ap_clause.specs.Clause.{conditions_in}
use Rattle.ap_clause.proofs.Arities.{conditions_in-many}
use Rattle.ap_clause.proofs.clause.+add_conditions.Goals as goal

pub returns-in_default-2 : goal.returns-in_default-2
returns-in_default-2 t c =
    let none : conditions_in (tree_of c.args.t.now) ≡ [] =
    ap (λ u. conditions_in (tree_of u)) c.in-Node.is ∙ ap (λ ts. conditions_in (node c.in-Node.name ts)) (sym c.as_slice.ensures)
    ∙ conditions_in-many c.in-Node.name c.as_slice.result.now c.in_default.len_at_least in
    sym (ap (λ cs. c.args.out.now.items ++ cs) none ∙ append-nil c.args.out.now.items)
