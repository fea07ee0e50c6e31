use Rattle.std.proofs.Common.{◌≡◌, ◌||◌, length, sym, ap, ◌∙◌}
use Rattle.std.specs.List.{list_any}
use Rattle.std.proofs.lemmas.Result.{on_ok_weaker}
use Rattle.ap_term.specs.Tree.{node}
use Rattle.ap_term.specs.TermView.{tree_of, trees_of}
use Rattle.ap_term.proofs.TermLists.{count-trees_of}
use Rattle.ap_reach.specs.Reached.{is_place, heads_open}
use Rattle.ap_reach.proofs.Naming.{open_before_all}
use Rattle.ap_reach.proofs.predicates.add_open.Goals as goal

pub returns-in-Node : goal.returns-in-Node
returns-in-Node c =
    let args = c.as_slice.result.now in
    let head : c.args.clause.now.head ≡ node c.in-Node.a c.in-Node.args = sym c.head.ensures.head ∙ ap tree_of c.in-Node.is in
    let same : node c.number.result (trees_of args) ≡ node c.in-Node.a c.in-Node.args = ap (λ a. node a (trees_of args)) c.number.ensures ∙ ap (node c.in-Node.a) c.as_slice.ensures in
    on_ok_weaker c.add_open_places.result
    (λ h k. h k ∙ ap (λ b. list_any (is_place k) c.args.found.now.keys || b) (open_before_all k (length args) c.number.result (trees_of args) (sym (count-trees_of args)) ∙ ap (heads_open k) (same ∙ sym head)))
    c.add_open_places.ensures
