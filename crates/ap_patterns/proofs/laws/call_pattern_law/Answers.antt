use Rattle.ap_patterns.proofs.CallPatterns.{call_pattern-covers}
use Rattle.ap_patterns.proofs.laws.call_pattern_law.Goals as goal

pub returns : goal.returns
returns c = call_pattern-covers
