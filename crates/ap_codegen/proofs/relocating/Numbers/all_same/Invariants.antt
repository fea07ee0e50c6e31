use Rattle.std.proofs.Common.{◌≡◌, true}
use Rattle.ap_codegen.specs.Relocated.{known_by, all_same}
use Rattle.ap_codegen.proofs.relocating.Numbers.all_same.Given as goal

abbrev pub invariant-loop-a : goal.invariant-loop-a
invariant-loop-a l = all_same (known_by l.self) l.a ≡ true
