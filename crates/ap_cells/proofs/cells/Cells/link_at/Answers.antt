use Rattle.std.proofs.Common.{◌≡◌, ◌<◌, IfSome, length, ap, subst, arith}
use Rattle.ap_cells.specs.Trees.{tree_at, trees}
use Rattle.ap_cells.specs.Store.{Store}
use Rattle.ap_cells.proofs.Packed.{link-down}
use Rattle.ap_cells.proofs.cells.Cells.link_at.Goals as goal

pub returns-clause-next : goal.returns-clause-next
returns-clause-next c =
    let v = ap (λ (v : Store). length v.cells) c.self.view_is in
    subst
    (λ (v : Store). IfSome c.link_at.result (λ p. (p < c.args.place) × (tree_at (trees v.cells) p ≡ tree_at (trees v.cells) c.args.place)))
    c.self.view_is
    (link-down c.self.inside.cells.items c.self.inside.trail.items c.link_at.result c.args.place c.self.invariant.store (omega arith) c.link_at.ensures)
