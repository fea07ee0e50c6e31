use Rattle.std.proofs.Common.{drop}
use Rattle.ap_codegen.specs.Relocated.{changes_of, IsAhead}
use Rattle.ap_codegen.proofs.relocating.all_kept.Given as goal

abbrev pub invariant-loop-change : goal.invariant-loop-change
invariant-loop-change l = IsAhead l.walk (changes_of (drop l.change-index l.changes)) → IsAhead l.fn.walk (changes_of l.changes)
