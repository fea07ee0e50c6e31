use Rattle.ap_standing.proofs.Turns.{rest-none}
use Rattle.ap_standing.proofs.Calls.{turned, taken, skipped}
use Rattle.ap_standing.proofs.clause_law.Goals as goal

pub returns : goal.returns
returns c = record { turns = turned; takes = taken; skips = skipped; has_none = rest-none }
