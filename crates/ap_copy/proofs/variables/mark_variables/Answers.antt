use Rattle.ap_cells.specs.Trees.{trees}
use Rattle.ap_copy.proofs.Tuples.{known-more}
use Rattle.ap_copy.proofs.variables.mark_variables.Goals as goal

pub loop-root-preserved : goal.loop-root-preserved
loop-root-preserved c =
    known-more (trees c.args.cells.now.cells) c.args.roots.now c.loop-root.root-index c.loop-root.marks c.mark_variables.new.marks c.loop-root-test.true c.loop-root.invariant c.in_ok-mark_variables.ensures
