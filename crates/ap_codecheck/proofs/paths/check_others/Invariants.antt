use Rattle.ap_codecheck.proofs.Tried.{IsTrying}
use Rattle.ap_codecheck.proofs.paths.check_others.Given as goal

abbrev pub invariant-loop-at : goal.invariant-loop-at
invariant-loop-at l = IsTrying l.code l.p l.at
