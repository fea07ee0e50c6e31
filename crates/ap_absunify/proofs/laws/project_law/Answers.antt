use Rattle.ap_absunify.proofs.Unite.{project-covers}
use Rattle.ap_absunify.proofs.laws.project_law.Goals as goal

pub returns : goal.returns
returns c = project-covers
