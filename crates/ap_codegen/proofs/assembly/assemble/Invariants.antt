use Rattle.std.proofs.Common.{take}
use Rattle.ap_instr.specs.Code.{Compiled}
use Rattle.ap_codegen.specs.Assembled.{Grows, Holds}
use Rattle.ap_codegen.specs.Said.{AreSaidAt}
use Rattle.ap_codegen.proofs.assembly.assemble.Given as goal

abbrev pub invariant-loop-step : goal.invariant-loop-step
invariant-loop-step l = Grows l.fn.tables l.tables × ((code : Compiled) → Holds l.tables code → AreSaidAt code l.start (take l.step-index l.steps) l.out.items)
