use Rattle.std.proofs.Common.{take}
use Rattle.ap_core.specs.Passes.{AreLoud, Passes}
use Rattle.ap_core.proofs.loud.Loud.pass.Given as goal

abbrev pub invariant-loop-clause : goal.invariant-loop-clause
invariant-loop-clause l = record {
  loud : AreLoud l.fn.program l.fn.self → AreLoud l.fn.program l.self;
  fewer : Passes l.fn.program (take l.clause-index l.fn.program) l.has_added l.fn.self l.self;
}
