use Rattle.std.proofs.Common.{sym, ◌∙◌, ap, arith}
use Rattle.ap_term.specs.Arithmetic.{evaluated}
use Rattle.ap_cells.specs.Trees.{trees}
use Rattle.ap_arith.proofs.Values.{evaluated-other}
use Rattle.ap_arith.proofs.evaluation.+nested.Goals as goal

pub operation-overflow_add-first : goal.operation-overflow_add-first
operation-overflow_add-first t c = let few = c.len-places.ensures.few in omega arith

pub operation-returns-in_default-clause-value : goal.operation-returns-in_default-clause-value
operation-returns-in_default-clause-value t c =
    sym (ap evaluated c.requires.tree ∙ evaluated-other (trees c.args.cells.now.cells) c.args.name c.args.first c.args.count (omega arith) (omega arith))
