use Rattle.std.proofs.Common.{map, sym, ap, ◌∙◌}
use Rattle.std.proofs.lemmas.Bool.{or_left}
use Rattle.ap_term.specs.GoalView.{part_of}
use Rattle.ap_term.specs.Goals.{plain_goals}
use Rattle.ap_core.specs.Passes.{some_calls}
use Rattle.ap_core.proofs.Passes.{some_calls-drop_more}
use Rattle.ap_core.proofs.loud.Loud.are_called_in.Goals as goal

pub returns-then-calls_in : goal.returns-then-calls_in
returns-then-calls_in c =
    sym (sym c.loop-part.invariant ∙ some_calls-drop_more c.args.self.now c.args.parts.now c.loop-part.part-index c.part-item.result c.loop-part-test.true c.part-item.is ∙ or_left _ _ (sym c.calls_in.ensures ∙ c.if-calls_in.true))
