use Rattle.std.proofs.Common.{arith}
use Rattle.std.proofs.lemmas.List.{length_push}
use Rattle.ap_cells.specs.declared.cells.Raw.TheVariants.{Free}
use Rattle.ap_copy.proofs.Blocks.{names-none, names-push}
use Rattle.ap_copy.proofs.copying.unbound.Goals as goal

pub loop-init : goal.loop-init
loop-init c = record { names = rw c.in_ok-block.ensures.items names-none; len = rw c.in_ok-block.ensures.items (omega arith) }

pub loop-preserved : goal.loop-preserved
loop-preserved c = record {
  names = rw c.in_ok-push.ensures.items (names-push c.loop.block.items c.loop.invariant.names);
  len = rw c.in_ok-push.ensures.items (omega (arith, length_push c.loop.block.items Free, c.loop.invariant.len));
}
