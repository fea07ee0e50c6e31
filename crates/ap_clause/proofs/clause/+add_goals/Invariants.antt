use Rattle.ap_term.specs.Tree.{size}
use Rattle.ap_term.specs.TermView.{tree_of}
use Rattle.ap_clause.proofs.clause.+add_goals.Given as goal

abbrev pub decreases-add_goals : goal.decreases-add_goals
decreases-add_goals l = size (tree_of l.t)
