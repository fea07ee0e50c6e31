use Rattle.std.proofs.Common.{ap, sym, ◌∙◌}
use Rattle.ap_term.specs.Tree.{node}
use Rattle.ap_cells.specs.declared.top.Top.TheVariants.{Node}
use Rattle.ap_instr.specs.Runs.{spread}
use Rattle.ap_instr.proofs.Registers.{count-spread}
use Rattle.ap_match.proofs.Maps.{fits-top}
use Rattle.ap_control.proofs.telling.key_of.Goals as goal

pub returns-else-count-gt255 : goal.returns-else-count-gt255
returns-else-count-gt255 c = λ k f. (
  spread k c.in-Node.field-1 c.in-Node.count,
  count-spread k c.in-Node.field-1 c.in-Node.count,
  fits-top c.args.cells.now.cells k c.args.place (Node c.in-Node.name c.in-Node.field-1 c.in-Node.count) f c.requires c.in-Node.ensures.tree c.in-Node.ensures.inside
      ∙ ap (λ n. node n (spread k c.in-Node.field-1 c.in-Node.count)) (sym c.number-in-Node.ensures),
)
