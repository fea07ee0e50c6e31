use Rattle.std.proofs.Common.{take}
use Rattle.ap_steps.specs.Moves.{held}
use Rattle.ap_control.specs.Choosing.{AreFit}
use Rattle.ap_control.proofs.choosing.fit_all.Given as goal

abbrev pub invariant-loop-ask : goal.invariant-loop-ask
invariant-loop-ask l = AreFit l.cells.cells (held l.x) l.arity (take l.ask-index l.asks) l.fit
