use Rattle.std.proofs.Common.{◌≡◌, drop}
use Rattle.ap_fixpoint.specs.Rounds.{joined_at}
use Rattle.ap_fixpoint.proofs.sums.united.Given as goal

abbrev pub invariant-loop-number : goal.invariant-loop-number
invariant-loop-number l = joined_at l.given (drop l.number-index l.numbers) l.sum ≡ joined_at l.given l.numbers l.initial.sum
