use Rattle.std.proofs.Common.{sym, ◌∙◌}
use Rattle.ap_machine.proofs.Counting.{past-check, told}
use Rattle.ap_machine.proofs.group.goals_from.Goals as goal

pub returns-in-Some-goals_said_by : goal.returns-in-Some-goals_said_by
returns-in-Some-goals_said_by c =
    sym (c.loop-place.invariant.same ∙ told c.args.code.now c.loop-place.place c.in-Some.instr c.in-Some-goals_said_by.count (sym c.goals_said_by.ensures ∙ c.in-Some-goals_said_by.is) (sym c.in-Some.ensures))

pub loop-place-preserved : goal.loop-place-preserved
loop-place-preserved c = record { same = c.loop-place.invariant.same ∙ past-check c.args.code.now c.loop-place.place c.in-Some.instr (sym c.goals_said_by.ensures ∙ c.in_default-goals_said_by.is) (sym c.in-Some.ensures) }
