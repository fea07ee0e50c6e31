use Rattle.std.proofs.Common.{◌≡◌, ◌<◌, length, get_or, subst}
use Rattle.ap_core.proofs.Passes.{member_at, AreLoud-Adds, pass-turn}
use Rattle.ap_core.proofs.loud.Loud.pass.Goals as goal

pub loop-clause-preserved : goal.loop-clause-preserved
loop-clause-preserved c =
    let p = c.args.program.now in
    let i = c.loop-clause.clause-index in
    let x = c.clause-item.result in
    let same = c.as_slice-clause-items.ensures.clauses in
    let within : i < length p = subst (λ q. i < length q) same c.loop-clause-test.true in
    let here : x ≡ get_or p i x = subst (λ q. x ≡ get_or q i x) same c.clause-item.is in
    let inv = c.loop-clause.invariant in record {
      loud = λ h. AreLoud-Adds p x c.in_ok-has_added.field-0 c.loop-clause.self c.add.new.self (member_at p i x within here) c.in_ok-has_added.ensures (inv.loud h);
      fewer = pass-turn p i x c.loop-clause.has_added c.in_ok-has_added.field-0 c.args.self.now c.loop-clause.self c.add.new.self within here c.in_ok-has_added.ensures inv.fewer;
    }
