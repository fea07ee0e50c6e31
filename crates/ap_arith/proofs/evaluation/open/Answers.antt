use Rattle.std.proofs.Common.{length}
use Rattle.std.proofs.lemmas.Result.{on_ok_weaker}
use Rattle.ap_cells.specs.Walks.{Each}
use Rattle.ap_arith.specs.Valued.{IsFrame}
use Rattle.ap_arith.proofs.evaluation.open.Goals as goal

pub returns-in-Node-clause-frames : goal.returns-in-Node-clause-frames
returns-in-Node-clause-frames c =
    let n = length c.args.cells.now.cells in
    on_ok_weaker {Q = Each (IsFrame n) c.args.frames.now.items → Each (IsFrame n) c.begin.new.frames.items} c.begin.result (λ f. f n c.in-Node.ensures.inside) c.begin.ensures.frames
