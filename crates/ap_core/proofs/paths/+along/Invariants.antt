use Rattle.std.proofs.Common.{◌+◌, ◌*◌, length}
use Rattle.ap_core.proofs.paths.+along.Given as goal

abbrev pub decreases-in_task : goal.decreases-in_task
decreases-in_task l = 6 * length l.path.now + 3

abbrev pub decreases-in_slots : goal.decreases-in_slots
decreases-in_slots l = 6 * length l.path.now + 2

abbrev pub decreases-in_slot : goal.decreases-in_slot
decreases-in_slot l = 6 * length l.path.now + 1

abbrev pub decreases-below_slot : goal.decreases-below_slot
decreases-below_slot l = 6 * length l.path.now + 5

abbrev pub decreases-below_progress : goal.decreases-below_progress
decreases-below_progress l = 6 * length l.path.now + 6

abbrev pub decreases-below_goal : goal.decreases-below_goal
decreases-below_goal l = 6 * length l.path.now + 4
