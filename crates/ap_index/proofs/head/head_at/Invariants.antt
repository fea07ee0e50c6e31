use Rattle.ap_index.proofs.Asking.{Walked}
use Rattle.ap_index.proofs.head.head_at.Given as goal

abbrev pub invariant-loop-place : goal.invariant-loop-place
invariant-loop-place l = Walked l.code l.at l.place l.reading l.asks.items
