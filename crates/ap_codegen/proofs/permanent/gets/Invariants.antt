use Rattle.std.proofs.Common.{◌≡◌, ◌++◌, drop}
use Rattle.ap_term.specs.TermView.{trees_of}
use Rattle.ap_term.specs.Vars.{add_all_vars}
use Rattle.ap_codegen.specs.Emitted.{steps_of}
use Rattle.ap_codegen.specs.Permanent.{gets}
use Rattle.ap_codegen.proofs.permanent.gets.Given as goal

abbrev pub invariant-loop-t : goal.invariant-loop-t
invariant-loop-t l = (steps_of l.code.items ++ gets (trees_of (drop l.t-index l.t-items)) l.at l.seen.items l.m ≡ steps_of l.fn.code.items ++ gets l.args 1 l.fn.seen.items l.m) × (add_all_vars (trees_of (drop l.t-index l.t-items)) l.seen.items ≡ add_all_vars l.args l.fn.seen.items)
