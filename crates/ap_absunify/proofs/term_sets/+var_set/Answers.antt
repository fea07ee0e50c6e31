use Rattle.ap_absunify.proofs.TermSets.{found_all}
use Rattle.ap_absunify.proofs.term_sets.+var_set.Goals as goal

pub add_var_sets-returns : goal.add_var_sets-returns
add_var_sets-returns t c = found_all c.args.terms.now c.loop-t.t-index c.loop-t.found _ c.loop-t-test.false c.loop-t.invariant.whole
