use Rattle.std.proofs.Common.{◌-◌, length}
use Rattle.ap_instr.specs.Steps.{steps_from}
use Rattle.ap_direct.specs.Unread.{IsUnread}
use Rattle.ap_direct.proofs.unread.is_unread.Given as goal

abbrev pub invariant-places : goal.invariant-places
invariant-places l = IsUnread l.r (steps_from l.code l.place) → IsUnread l.r (steps_from l.code l.at)

abbrev pub decreases-places : goal.decreases-places
decreases-places l = length l.code.instructions - l.place
