use Rattle.std.proofs.Common.{◌≡◌, ◌++◌, drop}
use Rattle.ap_term.specs.TermView.{trees_of}
use Rattle.ap_codegen.specs.Emitted.{steps_of}
use Rattle.ap_codegen.specs.Permanent.{puts}
use Rattle.ap_codegen.proofs.permanent.puts.Given as goal

abbrev pub invariant-loop-t : goal.invariant-loop-t
invariant-loop-t l = steps_of l.code.items ++ puts (trees_of (drop l.t-index l.t-items)) l.at l.seen.items l.m ≡ steps_of l.fn.code.items ++ puts l.args 1 l.fn.seen.items l.m
