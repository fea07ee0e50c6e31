use Rattle.std.proofs.Common.{◌≡◌, take}
use Rattle.ap_frames.specs.Rows.{all_fresh}
use Rattle.ap_frames.proofs.frame.Frame.open.Given as goal

abbrev pub invariant-loop-i : goal.invariant-loop-i
invariant-loop-i g l = l.slots.items ≡ all_fresh g.row.S.Denot g.row.T.Denot (take l.i l.loud)
