use Rattle.std.proofs.Common.{◌+◌, ◌*◌}
use Rattle.ap_lifting.specs.BodyView.{body_of}
use Rattle.ap_lifting.proofs.Weights.{weight}
use Rattle.ap_lifting.proofs.lifter.+lift.Given as goal

abbrev pub decreases-add_parts : goal.decreases-add_parts
decreases-add_parts l = 4 * weight (body_of l.body)

abbrev pub decreases-fill_place : goal.decreases-fill_place
decreases-fill_place l = 4 * weight (body_of l.body) + 1

abbrev pub decreases-raise : goal.decreases-raise
decreases-raise l = 4 * weight (body_of l.body) + 2

abbrev pub decreases-raise_two : goal.decreases-raise_two
decreases-raise_two l = 4 * (weight (body_of l.first) + weight (body_of l.second)) + 2

abbrev pub decreases-add_operand : goal.decreases-add_operand
decreases-add_operand l = 4 * weight (body_of l.body) + 3
