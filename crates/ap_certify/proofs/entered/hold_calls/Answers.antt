use Rattle.std.proofs.Common.{List, subst}
use Rattle.std.specs.List.{All}
use Rattle.std.proofs.lemmas.List.{take_all}
use Rattle.std.proofs.lemmas.List.Elements.{All-more}
use Rattle.ap_patterns.specs.declared.slots.Given.{Given}
use Rattle.ap_patterns.specs.Given.{patterns}
use Rattle.ap_patterns.specs.Covered.{IsHeld}
use Rattle.ap_certify.proofs.entered.hold_calls.Goals as goal

pub loop-i-preserved : goal.loop-i-preserved
loop-i-preserved c =
    let P : Given → Type 0 = IsHeld (patterns c.args.table.now) in
    All-more P c.args.calls.now c.loop-i.i c.index-calls-i.result c.loop-i-test.true c.loop-i.invariant (subst P c.index-calls-i.is c.in_ok-hold.ensures.held)

pub returns-clause-held : goal.returns-clause-held
returns-clause-held c =
    let P : List Given → Type 0 = All (IsHeld (patterns c.args.table.now)) in
    subst P (take_all c.loop-i.i c.args.calls.now c.loop-i-test.false) c.loop-i.invariant
