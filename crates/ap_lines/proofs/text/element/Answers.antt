use Rattle.std.proofs.Common.{◌≡◌, false, subst, sym, ◌∙◌}
use Rattle.ap_cells.specs.Trees.{trees}
use Rattle.ap_writer.specs.Work.{is_cell}
use Rattle.ap_lines.proofs.Spans.{element-not}
use Rattle.ap_lines.proofs.text.element.Goals as goal

pub returns-else-is_element-clause-parts : goal.returns-else-is_element-clause-parts
returns-else-is_element-clause-parts c =
    let names = c.args.atoms.now in
    subst (λ t. is_cell names t ≡ false) (sym c.in-Node.ensures.tree)
    (element-not names (trees c.args.cells.now.cells) c.in-Node.name c.in-Node.first c.in-Node.count (sym c.is_element.ensures ∙ c.if-is_element.false))
