use Rattle.std.proofs.Common.{arith}
use Rattle.ap_cells.proofs.Stores.{IsStore-new}
use Rattle.ap_cells.proofs.cells.Cells.new.Goals as goal

pub invariant_of-result : goal.invariant_of-result
invariant_of-result c = record {
  store = rw (c.new.ensures, c.new-2.ensures.items) IsStore-new;
  used = rw c.new.ensures (omega arith);
  room = omega arith;
  trail_room = omega arith;
  few = omega arith;
  settled = λ i d h. absurd (omega arith);
  settled_few = rw c.new.ensures (omega arith);
}
