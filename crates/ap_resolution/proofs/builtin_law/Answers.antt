use Rattle.ap_resolution.proofs.Builtins.{builtins}
use Rattle.ap_resolution.proofs.builtin_law.Goals as goal

pub returns : goal.returns
returns c = builtins
