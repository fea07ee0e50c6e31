use Rattle.std.proofs.Common.{◌≡◌, drop}
use Rattle.ap_core.specs.TaskView.{slots_view}
use Rattle.ap_core.specs.Conditions.{before_failed}
use Rattle.ap_core.specs.Telling.{told}
use Rattle.ap_core.specs.VerdictView.{left_test}
use Rattle.ap_core.proofs.conditions.before_failed.Given as goal

abbrev pub invariant-loop-x : goal.invariant-loop-x
invariant-loop-x l = before_failed (left_test l.test (told l.loud)) (slots_view (drop l.x-index l.slots)) ≡ before_failed (left_test l.test (told l.loud)) (slots_view l.slots)
