use Rattle.ap_conditions.proofs.Given.{given-holds, never-holds}
use Rattle.ap_conditions.proofs.laws.checks_law.Goals as goal

pub returns : goal.returns
returns c = record { given = given-holds; never_true = never-holds }
