use Rattle.ap_codecheck.proofs.Following.{IsChecking}
use Rattle.ap_codecheck.proofs.paths.check_clause.Given as goal

abbrev pub invariant-loop-number : goal.invariant-loop-number
invariant-loop-number l = IsChecking l.code l.p l.from l.walk.ways.items l.number
