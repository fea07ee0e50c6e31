use Rattle.std.proofs.Common.{sym, ap, ◌∙◌}
use Rattle.std.proofs.lemmas.Result.{on_ok_weaker}
use Rattle.ap_term.specs.Tree.{Tree, atom, node}
use Rattle.ap_term.specs.TermView.{tree_of, trees_of}
use Rattle.ap_term.proofs.Lists.{own_key}
use Rattle.ap_reach.specs.declared.called.Called.TheVariants.{All as Whole}
use Rattle.ap_reach.specs.Reached.{answers}
use Rattle.ap_reach.proofs.calls.add_goal.Goals as goal

pub returns-in-Atom-clause-named : goal.returns-in-Atom-clause-named
returns-in-Atom-clause-named c =
    let p = c.args.program.now in
    on_ok_weaker c.add.result
    (λ h u. h p (tree_of c.args.goal.now) (ap (λ (t : Tree). answers p (Whole c.number.result 0) t) (ap tree_of c.in-Atom.is ∙ ap atom (sym c.number.ensures)) ∙ own_key (c.number.result, 0)))
    c.add.ensures.among

pub returns-in-Node-clause-named : goal.returns-in-Node-clause-named
returns-in-Node-clause-named c =
    let p = c.args.program.now in
    on_ok_weaker c.add-in-Node.result
    (λ h u.
    h p (tree_of c.args.goal.now)
    (ap (λ (t : Tree). answers p c.called.result t) (ap tree_of c.in-Node.is ∙ ap (node c.in-Node.a) (sym c.as_slice.ensures) ∙ ap (λ a. node a (trees_of c.as_slice.result.now)) (sym c.number-in-Node.ensures)) ∙ c.called.ensures.answers))
    c.add-in-Node.ensures.among
