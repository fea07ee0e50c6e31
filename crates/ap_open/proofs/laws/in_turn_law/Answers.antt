use Rattle.ap_open.proofs.InTurn.{in_turn_is}
use Rattle.ap_open.proofs.laws.in_turn_law.Goals as goal

pub returns : goal.returns
returns c = in_turn_is
