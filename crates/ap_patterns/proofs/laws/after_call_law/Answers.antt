use Rattle.ap_patterns.proofs.AfterCall.{after_call-covers}
use Rattle.ap_patterns.proofs.laws.after_call_law.Goals as goal

pub returns : goal.returns
returns c = after_call-covers
