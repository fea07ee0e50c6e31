use Rattle.std.proofs.Common.{◌≡◌, drop}
use Rattle.ap_term.specs.TermView.{trees_of}
use Rattle.ap_term.specs.Vars.{add_all_vars}
use Rattle.ap_codegen.proofs.permanent.see.Given as goal

abbrev pub invariant-loop-t : goal.invariant-loop-t
invariant-loop-t l = add_all_vars (trees_of (drop l.t-index l.t-items)) l.seen.items ≡ add_all_vars l.args l.fn.seen.items
