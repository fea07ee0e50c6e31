use Rattle.std.proofs.Common.{subst}
use Rattle.ap_frames.specs.Rows.{row}
use Rattle.ap_frames.specs.Records.{HasOneMore}
use Rattle.ap_frames.proofs.Places.{stored_at_place}
use Rattle.ap_frames.proofs.frame.Frame.keep.Goals as goal

pub returns-clause-after : goal.returns-clause-after
returns-clause-after g c =
    stored_at_place (row c.args.self.now) c.args.i c.args.tuple c.add.new.x c.index_mut.result.now c.requires.place.0 c.requires.place.1
    (subst (λ y. HasOneMore c.args.tuple y c.add.new.x) c.index_mut.ensures.value c.in_ok-add.ensures.stored)
