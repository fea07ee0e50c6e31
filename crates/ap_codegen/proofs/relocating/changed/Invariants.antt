use Rattle.std.proofs.Common.{◌≡◌, ◌++◌, drop}
use Rattle.ap_codegen.specs.Relocated.{written}
use Rattle.ap_codegen.proofs.relocating.changed.Given as goal

abbrev pub invariant-loop-change : goal.invariant-loop-change
invariant-loop-change l = record {
  at : l.i ≡ l.change-index;
  same : l.out.items ++ written (drop l.change-index l.changes) ≡ written l.changes;
}
