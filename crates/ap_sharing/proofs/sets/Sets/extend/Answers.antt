use Rattle.std.proofs.Common.{ap, ◌∙◌, subst}
use Rattle.ap_sharing.specs.Sets.{IsAscending, sets_of}
use Rattle.ap_sharing.proofs.Made.{join-sets_of}
use Rattle.ap_sharing.proofs.sets.Sets.extend.Goals as goal

pub returns : goal.returns
returns c = c.in_ok-self.ensures ∙ ap sets_of c.in_ok-all.ensures ∙ join-sets_of c.args.self.now c.args.more.now (subst IsAscending c.drop.view_is c.drop.invariant)
