use Rattle.ap_listing.proofs.Unbound.{leads_to_all}
use Rattle.ap_listing.proofs.laws.unbound_law.Goals as goal

pub returns : goal.returns
returns c = leads_to_all
