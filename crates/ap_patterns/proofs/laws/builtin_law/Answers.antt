use Rattle.ap_patterns.proofs.Coverings.{builtin-test}
use Rattle.ap_patterns.proofs.laws.builtin_law.Goals as goal

pub returns : goal.returns
returns c = builtin-test
