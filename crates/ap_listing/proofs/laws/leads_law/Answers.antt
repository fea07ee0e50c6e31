use Rattle.ap_listing.proofs.Leads.{leads_to_clauses}
use Rattle.ap_listing.proofs.laws.leads_law.Goals as goal

pub returns : goal.returns
returns c = leads_to_clauses
