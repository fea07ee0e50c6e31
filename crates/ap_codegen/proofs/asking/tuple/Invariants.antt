use Rattle.std.proofs.Common.{◌≡◌}
use Rattle.ap_term.specs.Search.{variables}
use Rattle.ap_codegen.proofs.asking.tuple.Given as goal

abbrev pub invariant-loop-x : goal.invariant-loop-x
invariant-loop-x l = l.args ≡ variables l.x
