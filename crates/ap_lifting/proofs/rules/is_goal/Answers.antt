use Rattle.ap_term.specs.TermView.{tree_of}
use Rattle.ap_lifting.proofs.Kept.{is_goal_test}
use Rattle.ap_lifting.proofs.rules.is_goal.Goals as goal

pub returns : goal.returns
returns c = is_goal_test c.is_clause.result (tree_of c.args.t.now) c.args.n c.args.no_parts.now c.requires.none c.requires.few c.is_clause.ensures
