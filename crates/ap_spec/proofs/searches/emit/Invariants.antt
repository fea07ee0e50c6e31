use Rattle.std.proofs.Common.{◌≡◌, ◌++◌, length}
use Rattle.ap_spec.specs.Searches.{answers_first, behind_answers}
use Rattle.ap_spec.proofs.searches.emit.Given as goal

abbrev pub invariant-loop-s : goal.invariant-loop-s
invariant-loop-s l = (l.answers ++ answers_first l.stack ≡ l.initial.answers ++ answers_first l.initial.stack) × (behind_answers l.stack ≡ behind_answers l.initial.stack)

abbrev pub decreases-loop-s : goal.decreases-loop-s
decreases-loop-s l = length l.stack
