use Rattle.ap_codecheck.specs.Judged.{KeepsBelow}
use Rattle.ap_codecheck.proofs.operands.check_operands.Given as goal

abbrev pub invariant-loop-at : goal.invariant-loop-at
invariant-loop-at l = KeepsBelow l.code l.p l.at
