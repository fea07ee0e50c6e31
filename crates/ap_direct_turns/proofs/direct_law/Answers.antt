use Rattle.ap_direct_turns.proofs.Turn.{direct-turn}
use Rattle.ap_direct_turns.proofs.direct_law.Goals as goal

pub returns : goal.returns
returns c = direct-turn
