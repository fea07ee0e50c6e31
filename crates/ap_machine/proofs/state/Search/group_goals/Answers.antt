use Rattle.std.proofs.Common.{ap, sym, ◌∙◌}
use Rattle.ap_instr.specs.Code.{Compiled}
use Rattle.ap_instr.specs.Steps.{steps_from}
use Rattle.ap_machine.specs.Ahead.{goals_ahead}
use Rattle.ap_machine.proofs.Counting.{forked-ahead}
use Rattle.ap_machine.proofs.state.Search.group_goals.Goals as goal

pub returns : goal.returns
returns c = λ t h.
    forked-ahead c.args.sound.now c.args.self.now t c.in-Inside.at c.in-Inside.ensures h
    ∙ sym (c.goals_from.ensures ∙ ap (λ (code : Compiled). goals_ahead (steps_from code c.in-Inside.at)) c.code.ensures.same)
