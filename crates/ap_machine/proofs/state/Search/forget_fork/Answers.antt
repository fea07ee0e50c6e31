use Rattle.ap_machine.proofs.Parting.{for-dropped}
use Rattle.ap_machine.proofs.state.Search.forget_fork.Goals as goal

pub returns-clause-is_for : goal.returns-clause-is_for
returns-clause-is_for c = λ code h.
    for-dropped code c.come_to_fork.new.self c.drop_fork.new.self (c.come_to_fork.ensures.is_for code h) c.drop_fork.ensures.some c.drop_fork.ensures.none
