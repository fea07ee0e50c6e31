use Rattle.std.proofs.Common.{◌≡◌, ◌+◌, ◌≤◌, drop}
use Rattle.ap_codegen.specs.Relocated.{changes_of, staying}
use Rattle.ap_codegen.proofs.relocating.staying.Given as goal

abbrev pub invariant-loop-change : goal.invariant-loop-change
invariant-loop-change l = record {
  few : l.count + l.left ≤ l.n;
  sum : l.count + staying l.left (changes_of (drop l.change-index l.changes)) ≡ staying l.n (changes_of l.changes);
}
