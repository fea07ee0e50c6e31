use Rattle.std.proofs.Common.{◌≡◌, length, subst, arith}
use Rattle.ap_cells.specs.Store.{Closed}
use Rattle.ap_cells.proofs.Settled.{Closed-all}
use Rattle.ap_cells.proofs.cells.Cells.settle.Goals as goal

pub invariant_of-self : goal.invariant_of-self
invariant_of-self c =
    let o = c.self.invariant in
    let all : length c.self.inside.cells.items ≡ c.len-self-inside.result = omega arith in
    record {
      store = o.store;
      used = o.used;
      room = o.room;
      trail_room = o.trail_room;
      few = o.few;
      settled = subst (λ n. Closed n c.self.inside.cells.items) all (Closed-all c.self.inside.cells.items c.self.inside.trail.items o.store);
      settled_few = omega (arith, c.len-self-inside.ensures);
    }
