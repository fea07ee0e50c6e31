use Rattle.std.proofs.Common.{ap, w64}
use Rattle.std.proofs.lemmas.Int.{to_z-of_z}
use Rattle.ap_term.specs.Tree.{int}
use Rattle.ap_cells.proofs.Stores.{Keeps-trans}
use Rattle.ap_copy.proofs.Moves.{Keeps-same}
use Rattle.ap_machine.proofs.Values.{new-given}
use Rattle.ap_machine.proofs.direct.give.Goals as goal

pub returns-clause-given : goal.returns-clause-given
returns-clause-given c =
    new-given c.args.cells.now.cells c.reserve.new.self.cells c.push_new-place.new.cells.cells c.args.x.now c.args.y.now c.write.new.x c.write.new.y c.args.v c.args.z c.push_new-place.result _ c.reserve.ensures.cells c.push_new-place.ensures.place
    (λ k. ap int (to_z-of_z w64 c.args.z c.ranges.z)) c.push_new-place.ensures.len c.push_new-place.ensures.becomes c.push_new-place.ensures.fits c.write.ensures.x c.write.ensures.y

pub returns-clause-keeps : goal.returns-clause-keeps
returns-clause-keeps c =
    Keeps-trans c.args.cells.now c.reserve.new.self c.push_new-place.new.cells (Keeps-same c.args.cells.now c.reserve.new.self c.reserve.ensures.cells c.reserve.ensures.trail) c.push_new-place.ensures.keeps
