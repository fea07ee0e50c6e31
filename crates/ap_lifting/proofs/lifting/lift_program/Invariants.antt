use Rattle.std.proofs.Common.{◌≡◌, ◌++◌, slice_index}
use Rattle.ap_lifting.proofs.Filled.{AreLifted}
use Rattle.ap_lifting.proofs.lifting.lift_program.Given as goal

abbrev pub invariant-loop-rule : goal.invariant-loop-rule
invariant-loop-rule l = record {
  lifted : AreLifted (slice_index l.names) l.yielded l.program l.out;
  all : l.yielded ++ l.rule-iterator.rest.items ≡ l.fn.rules.items;
}
