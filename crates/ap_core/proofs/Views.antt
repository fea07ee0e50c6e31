-- Lists of slots, seen as the slots that they stand for.
use Rattle.std.proofs.Common.{◌≡◌, ℕ, ◌+◌, ◌<◌, List, length, drop, get_or, ap, sym, ◌∙◌}
use Rattle.std.proofs.lemmas.List.{drop_more}
use Rattle.ap_core.specs.declared.tasks.Slot.{Slot}
use Rattle.ap_core.specs.Tasks.{slot}
use Rattle.ap_core.specs.TaskView.{slot_view, slots_view}

pub slots_view-drop_more : (xs : List Slot) (i : ℕ) (x : Slot) → i < length xs → x ≡ get_or xs i x → slots_view (drop i xs) ≡ slot (slot_view x).0 (slot_view x).1 (slot_view x).2 (slots_view (drop (i + 1) xs))
slots_view-drop_more xs i x h e = ap slots_view (drop_more xs i x h) ∙ ap (λ y. slot (slot_view y).0 (slot_view y).1 (slot_view y).2 (slots_view (drop (i + 1) xs))) (sym e)

pub ruleset slot_rows = slots_view-drop_more
