use Rattle.ap_laws.proofs.Example.{example}
use Rattle.ap_laws.proofs.example_law.Goals as goal

pub returns : goal.returns
returns c = example
