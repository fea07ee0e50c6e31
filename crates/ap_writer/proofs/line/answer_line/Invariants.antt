use Rattle.ap_writer.specs.SoFar.{IsSoFar}
use Rattle.ap_writer.proofs.line.answer_line.Given as goal

abbrev pub invariant-loop-i : goal.invariant-loop-i
invariant-loop-i l = IsSoFar l.atoms l.name-items l.tuple l.i l.is_first l.numbers l.out.items
