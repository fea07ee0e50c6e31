use Rattle.std.proofs.Common.{take}
use Rattle.ap_index.specs.Words.{IsShortOf}
use Rattle.ap_index.proofs.word.shorten.Given as goal

abbrev pub invariant-loop-ask : goal.invariant-loop-ask
invariant-loop-ask l = IsShortOf (take l.ask-index l.asks) l.short
