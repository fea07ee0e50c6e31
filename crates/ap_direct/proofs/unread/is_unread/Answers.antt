use Rattle.std.proofs.Common.{sym, ◌∙◌}
use Rattle.ap_direct.proofs.Steps.{ends-at, passes-at}
use Rattle.ap_direct.proofs.unread.is_unread.Goals as goal

pub returns-in-Ends : goal.returns-in-Ends
returns-in-Ends c = λ e. c.places.invariant (ends-at c.args.r c.args.code.now c.places.place c.in-Some.instr (sym c.in-Some.ensures) (sym c.in-Ends.is ∙ c.use_of.ensures))

pub places-preserved : goal.places-preserved
places-preserved c = λ h. c.places.invariant (passes-at c.args.r c.args.code.now c.places.place c.in-Some.instr (sym c.in-Some.ensures) (sym c.in-Passes.is ∙ c.use_of.ensures) h)
