use Rattle.ap_cells.specs.Trees.{trees}
use Rattle.ap_copy.proofs.Tuples.{known-at, copies-more}
use Rattle.ap_copy.proofs.copying.copy_terms.Goals as goal

pub returns-then-not-branch-clause-unknown : goal.returns-then-not-branch-clause-unknown
returns-then-not-branch-clause-unknown c q k =
    c.in_ok-copy_term.ensures.unknown c.if-not-branch.true (known-at (trees c.args.cells.now.cells) c.args.roots.now c.loop-root.root-index c.args.marks.now c.loop-root-test.true k)

pub loop-root-preserved : goal.loop-root-preserved
loop-root-preserved c = record {
  copies =
      copies-more c.args.marks.now (trees c.args.cells.now.cells) c.args.roots.now c.loop-root.root-index c.loop-root.copying.block.items c.copy_term.new.copying.block.items c.loop-root.copying.loose.items
      c.copy_term.new.copying.loose.items c.loop-root-test.true c.loop-root.invariant.copies (c.in_ok-copy_term.ensures.copied c.if-not-branch.false);
  block = c.in_ok-copy_term.ensures.block c.if-not-branch.false;
  memory = c.in_ok-copy_term.ensures.memory c.if-not-branch.false;
  idle = c.in_ok-copy_term.ensures.idle c.if-not-branch.false;
}
