use Rattle.std.proofs.Common.{arith}
use Rattle.ap_cells.specs.Trees.{trees}
use Rattle.ap_match.proofs.Matches.{span-absent}
use Rattle.ap_match.proofs.matching.are_apart.Goals as goal

pub returns : goal.returns
returns c = λ e. span-absent (trees c.args.cells.now.cells) c.args.x c.args.first c.args.count (λ j b. c.loop-i.invariant j (omega arith))
