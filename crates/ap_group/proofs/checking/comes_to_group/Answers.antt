use Rattle.std.proofs.Common.{Some, ap, sym, ◌∙◌}
use Rattle.ap_group.proofs.Checks.{comes-past, comes-here}
use Rattle.ap_group.proofs.checking.comes_to_group.Goals as goal

pub returns-then-not-is_check : goal.returns-then-not-is_check
returns-then-not-is_check c = λ yes.
    let a = c.begins_goals.ensures yes in
    c.loop-place.invariant.comes (comes-here c.args.code.now c.loop-place.place a.0 a.1 (sym c.in-Some.ensures ∙ ap Some a.2))

pub loop-place-preserved : goal.loop-place-preserved
loop-place-preserved c = record { comes = λ h. c.loop-place.invariant.comes (comes-past c.args.code.now c.loop-place.place c.in-Some.instr (sym c.is_check.ensures ∙ c.if-not-is_check.false) (sym c.in-Some.ensures) h) }
