use Rattle.ap_laws.proofs.Rejoining.{emitted_lines}
use Rattle.ap_laws.proofs.emitted_law.Goals as goal

pub returns : goal.returns
returns c = emitted_lines
