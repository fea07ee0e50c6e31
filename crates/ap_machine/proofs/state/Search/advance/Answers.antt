use Rattle.std.proofs.lemmas.Result.{IfOk-weaker}
use Rattle.ap_machine.proofs.Ending.{states-left}
use Rattle.ap_machine.proofs.state.Search.advance.Goals as goal

pub returns-clause-states : goal.returns-clause-states
returns-clause-states g c =
    IfOk-weaker _ _ _ (λ turn h. states-left c.args.sound.now c.args.inferences c.args.self.now c.advance_by-turn.new.self c.roots_are_cells.ensures turn h) c.advance_by-turn.ensures.end
