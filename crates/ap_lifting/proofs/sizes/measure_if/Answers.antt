use Rattle.std.proofs.Common.{◌≡◌, ap, sym, ◌∙◌, length}
use Rattle.std.proofs.lemmas.List.{length-map}
use Rattle.ap_term.specs.GoalView.{part_of}
use Rattle.ap_lifting.specs.BodyView.{body_if}
use Rattle.ap_lifting.specs.Sizes.{held_measure, measured_if, row}
use Rattle.ap_lifting.proofs.GoalRows.{measured_if-row_if}
use Rattle.ap_lifting.proofs.sizes.measure_if.Goals as goal

pub returns-in-Row : goal.returns-in-Row
returns-in-Row c =
    let many : length c.as_slice.result.now ≡ length c.in-Row.row
    = sym (length-map c.as_slice.result.now part_of) ∙ ap length c.as_slice.ensures ∙ ap length c.goals.ensures.goals
    in
    c.row.ensures ∙ ap (λ n. held_measure (row n)) many ∙ ap held_measure (sym (measured_if-row_if c.in-Row.row)) ∙ sym (ap (λ b. held_measure (measured_if b)) (ap body_if c.in-Row.is))
