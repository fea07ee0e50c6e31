use Rattle.std.proofs.Common.{◌≡◌, ◌∷◌, ◌++◌, [], length, if◌then◌else◌, sym, ap, ap₂, ◌∙◌}
use Rattle.std.proofs.lemmas.Result.{on_ok_weaker}
use Rattle.ap_term.specs.Tree.{Tree, node, count_trees}
use Rattle.ap_term.specs.TermView.{tree_of, trees_of}
use Rattle.ap_term.proofs.TermLists.{count-trees_of}
use Rattle.ap_reach.specs.declared.called.Called.TheVariants.{All as Whole}
use Rattle.ap_reach.specs.Reached.{is_called, leads, leads_before}
use Rattle.ap_reach.specs.Index.{clauses_at}
use Rattle.ap_reach.proofs.Naming.{head_turn}
use Rattle.ap_reach.proofs.predicates.add_by_head.Goals as goal

pub returns-in_ok-add_clause-in-Node : goal.returns-in_ok-add_clause-in-Node
returns-in_ok-add_clause-in-Node c =
    let head : c.args.clause.now.head ≡ node c.in-Node.a c.in-Node.args = sym c.head.ensures.head ∙ ap tree_of c.in-Node.is in
    let count : length c.as_slice.result.now ≡ c.len.result = sym (count-trees_of c.as_slice.result.now) ∙ ap count_trees c.as_slice.ensures ∙ sym c.len.ensures in
    let same : node c.number-in-Node-2.result (trees_of c.as_slice.result.now) ≡ node c.in-Node.a c.in-Node.args = ap (λ a. node a (trees_of c.as_slice.result.now)) c.number-in-Node-2.ensures ∙ ap (node c.in-Node.a) c.as_slice.ensures in
    on_ok_weaker c.add_by_arguments.result
    (λ h k near.
    head_turn k c.in-Node.a c.len.result c.in-Node.args (clauses_at c.args.index.now k) (clauses_at c.add_clause-in-Node.new.index k) (clauses_at c.add_by_arguments.new.index k) c.args.clause.now c.len.ensures
    (c.in_ok-add_clause-in-Node.ensures k ∙ ap (λ a. if is_called (Whole a c.len.result) k then clauses_at c.args.index.now k ++ c.args.clause.now ∷ [] else clauses_at c.args.index.now k) c.number-in-Node.ensures)
    (h k near ∙ ap₂ (λ n (t : Tree). if leads_before n k t then clauses_at c.add_clause-in-Node.new.index k ++ c.args.clause.now ∷ [] else clauses_at c.add_clause-in-Node.new.index k) count same)
    ∙ ap (λ (t : Tree). if leads k t then clauses_at c.args.index.now k ++ c.args.clause.now ∷ [] else clauses_at c.args.index.now k) (sym head)) c.add_by_arguments.ensures
