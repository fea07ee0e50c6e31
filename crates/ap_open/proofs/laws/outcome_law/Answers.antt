use Rattle.ap_open.proofs.Outcomes.{outcomes}
use Rattle.ap_open.proofs.laws.outcome_law.Goals as goal

pub returns : goal.returns
returns c = outcomes c.beginning_law.ensures c.resting_law.ensures c.settling_law.ensures
