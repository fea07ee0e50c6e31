use Rattle.std.proofs.Common.{◌≡◌, false, subst, arith}
use Rattle.ap_term.specs.Vars.{occurs_all}
use Rattle.ap_cells.specs.Trees.{span, trees}
use Rattle.ap_cells.specs.Store.{Store}
use Rattle.ap_cells.proofs.Settled.{settled_absent}
use Rattle.ap_cells.proofs.cells.Cells.are_settled_before.Goals as goal

pub returns : goal.returns
returns c e =
    let o = c.self.invariant in
    let a = settled_absent c.self.inside.cells.items c.self.inside.trail.items c.self.inside.settled c.args.x c.args.first c.args.count o.store o.settled_few o.settled (omega arith) (omega arith) in
    subst (λ (v : Store). occurs_all c.args.x (span (trees v.cells) c.args.first c.args.count) ≡ false) c.self.view_is a
