use Rattle.std.proofs.Common.{length}
use Rattle.ap_term.specs.Tree.{var}
use Rattle.ap_steps.proofs.Building.{variable-built}
use Rattle.ap_steps.proofs.NewCells.{push-keeps, push-apart, own-apart}
use Rattle.ap_steps.proofs.arguments.build_variable.Goals as goal

pub returns-clause-built : goal.returns-clause-built
returns-clause-built c =
    variable-built c.args.cells.now.cells c.push_free-place.new.cells.cells c.push_free-place.result c.push_free-place.ensures.place c.push_free-place.ensures.len c.push_free-place.ensures.becomes c.push_free-place.ensures.fits c.args.x.now
    c.write.new.x c.args.y.now c.write.new.y c.args.v c.write.ensures.x c.write.ensures.y

pub returns-clause-stays : goal.returns-clause-stays
returns-clause-stays c = push-keeps c.args.cells.now.cells c.push_free-place.new.cells.cells (var (length c.args.cells.now.cells)) c.push_free-place.ensures.trees

pub returns-clause-apart : goal.returns-clause-apart
returns-clause-apart c =
    let n = length c.args.cells.now.cells in
    push-apart c.args.cells.now.cells c.push_free-place.new.cells.cells (var n) c.push_free-place.ensures.trees c.push_free-place.ensures.len (λ x l. own-apart x n l)
