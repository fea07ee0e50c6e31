use Rattle.std.proofs.Common.{sym, subst}
use Rattle.ap_sharing.specs.Sets.{IsAscending}
use Rattle.ap_sharing.proofs.Lists.{ascending-none}
use Rattle.ap_sharing.proofs.sets.Sets.clear.Goals as goal

pub invariant_of-self : goal.invariant_of-self
invariant_of-self c = subst IsAscending (sym c.clear.ensures.items) ascending-none
