use Rattle.std.proofs.Common.{◌-◌, length, ap, sym, ◌∙◌}
use Rattle.ap_term.specs.Tree.{count_trees}
use Rattle.ap_cells.specs.Trees.{trees}
use Rattle.ap_cells.proofs.Walks.{count-span}
use Rattle.ap_copy.proofs.parcels.Parcelled.len.Goals as goal

pub returns : goal.returns
returns c =
    let cs = c.self.inside.cells.items in
    sym (count-span (trees cs) (length cs - c.self.inside.count) c.self.inside.count) ∙ ap count_trees c.self.view_is
