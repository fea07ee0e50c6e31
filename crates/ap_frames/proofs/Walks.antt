-- Slots in a row, gone through from the first one on.
use Rattle.ap_term.proofs.Lists.{drop-read}

pub ruleset walk_rules = drop-read
