use Rattle.ap_standing.proofs.Builtins.{solved-turn, true-turn, fail-turn}
use Rattle.ap_standing.proofs.goal_law.Goals as goal

pub returns : goal.returns
returns c = record { solves = solved-turn; holds = true-turn; fails = fail-turn }
