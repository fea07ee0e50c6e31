use Rattle.std.proofs.Common.{◌≡◌, true, drop}
use Rattle.std.specs.List.{list_all}
use Rattle.ap_codegen.specs.Relocated.{changes_of, change_fits}
use Rattle.ap_codegen.proofs.relocating.all_fit.Given as goal

abbrev pub invariant-loop-change : goal.invariant-loop-change
invariant-loop-change l = list_all (change_fits l.room) (changes_of (drop l.change-index l.changes)) ≡ true → list_all (change_fits l.room) (changes_of l.changes) ≡ true
