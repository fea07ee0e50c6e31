use Rattle.std.proofs.Common.{take, ap, ◌∙◌}
use Rattle.ap_cells.specs.Packing.{Packed}
use Rattle.ap_cells.proofs.Packed.{raws-take}
use Rattle.ap_cells.proofs.packed_cells.PackedCells.truncate.Goals as goal

pub returns-clause-items : goal.returns-clause-items
returns-clause-items c =
    rw (c.truncate.ensures.items, c.truncate-2.ensures.items) (raws-take c.args.n c.self.inside.words.items c.self.inside.apart.items)
    ∙ ap (λ (v : Packed). take c.args.n v.items) c.self.view_is
