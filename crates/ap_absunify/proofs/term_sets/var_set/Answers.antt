use Rattle.std.proofs.Common.{ap, ◌∙◌}
use Rattle.ap_sharing.specs.VarSet.{union}
use Rattle.ap_sharing.proofs.Elements.{empty-union}
use Rattle.ap_term.specs.TermView.{tree_of}
use Rattle.ap_absunify.specs.TermSets.{var_set}
use Rattle.ap_absunify.proofs.term_sets.var_set.Goals as goal

pub returns : goal.returns
returns c = c.add_var_set.ensures ∙ ap (λ s. union s (var_set (tree_of c.args.t.now))) c.new-found.ensures ∙ empty-union (var_set (tree_of c.args.t.now))
