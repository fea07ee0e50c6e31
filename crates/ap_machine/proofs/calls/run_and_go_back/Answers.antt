use Rattle.std.proofs.Common.{◌≤◌, length, arith}
use Rattle.ap_machine.proofs.calls.run_and_go_back.Goals as goal

pub back_to_newest-requires : goal.back_to_newest-requires
back_to_newest-requires c =
    let b = c.requires.back in
    let e = c.can_take-outcome.ensures.x_len in
    let l : length b.0.arguments ≤ length c.args.x.now = b.4 in
    (b.0, b.1, b.2, c.can_take-outcome.ensures.keeps.stays b.0.choice.cells b.0.choice.trail b.3, omega arith)
