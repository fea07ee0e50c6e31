use Rattle.std.proofs.Common.{sym, subst}
use Rattle.ap_sharing.specs.Sets.{IsAscending}
use Rattle.ap_sharing.proofs.Lists.{ascending-none}
use Rattle.ap_sharing.proofs.sets.Sets.new.Goals as goal

pub invariant_of-result : goal.invariant_of-result
invariant_of-result c = subst IsAscending (sym c.new.ensures.items) ascending-none
