use Rattle.std.proofs.Common.{◌-◌}
use Rattle.ap_codecheck.specs.Held.{shape_of}
use Rattle.ap_codecheck.proofs.Following.{IsOn}
use Rattle.ap_codecheck.proofs.paths.follow.Given as goal

abbrev pub invariant-loop-at : goal.invariant-loop-at
invariant-loop-at l = IsOn l.code l.p l.from (shape_of l.fn.walk.shape) l.fn.walk.ways.items l.at (shape_of l.walk.shape) l.walk.ways.items

abbrev pub decreases-loop-at : goal.decreases-loop-at
decreases-loop-at l = l.end - l.at
