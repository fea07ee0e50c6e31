use Rattle.std.proofs.Common.{◌≤◌, arith}
use Rattle.std.proofs.lemmas.Result.{on_ok_weaker}
use Rattle.ap_codecheck.proofs.Ways.{place_below}
use Rattle.ap_codecheck.proofs.Tried.{retry-behind, trust-behind, begins-other, retry-first, trust-first, trying-awaited, trying-last, trying-next, trying-stray, no_alternative}
use Rattle.ap_codecheck.proofs.paths.check_others.Goals as goal

pub check_begun-requires-clause-behind : goal.check_begun-requires-clause-behind
check_begun-requires-clause-behind c =
    let behind : c.args.p.now.start ≤ c.loop-at.at = omega (arith, c.loop-at.invariant.behind) in
    let place = place_below c.args.code.now c.args.p.now c.loop-at.at _ _ behind c.loop-at-test.true c.min-end.ensures c.instructions.ensures in
    retry-behind c.args.code.now c.args.p.now c.loop-at.at c.in-Retry.l c.requires.operands place c.in-Retry.ensures

pub check_begun-requires-clause-begins : goal.check_begun-requires-clause-begins
check_begun-requires-clause-begins c =
    begins-other c.args.code.now c.args.p.now c.loop-at.at c.in-Retry.l _ c.loop-at.invariant c.requires.tries.1 (retry-first c.args.code.now c.loop-at.at c.in-Retry.l c.in-Retry.ensures)

pub check_begun-requires-in-Trust-clause-behind : goal.check_begun-requires-in-Trust-clause-behind
check_begun-requires-in-Trust-clause-behind c =
    let behind : c.args.p.now.start ≤ c.loop-at.at = omega (arith, c.loop-at.invariant.behind) in
    let place = place_below c.args.code.now c.args.p.now c.loop-at.at _ _ behind c.loop-at-test.true c.min-end.ensures c.instructions.ensures in
    trust-behind c.args.code.now c.args.p.now c.loop-at.at c.in-Trust.l c.requires.operands place c.in-Trust.ensures

pub check_begun-requires-in-Trust-clause-begins : goal.check_begun-requires-in-Trust-clause-begins
check_begun-requires-in-Trust-clause-begins c =
    begins-other c.args.code.now c.args.p.now c.loop-at.at c.in-Trust.l _ c.loop-at.invariant c.requires.tries.1 (trust-first c.args.code.now c.loop-at.at c.in-Trust.l c.in-Trust.ensures)

pub returns-in-Trust-clause-awaited : goal.returns-in-Trust-clause-awaited
returns-in-Trust-clause-awaited c =
    let behind : c.args.p.now.start ≤ c.loop-at.at = omega (arith, c.loop-at.invariant.behind) in
    let place = place_below c.args.code.now c.args.p.now c.loop-at.at _ _ behind c.loop-at-test.true c.min-end.ensures c.instructions.ensures in
    on_ok_weaker _ (λ _. trying-awaited c.args.code.now c.args.p.now c.loop-at.at c.in-Trust.l c.loop-at.invariant place c.in-Trust.ensures) c.check_begun-in-Trust.ensures.ok

pub returns-in-Trust-clause-clauses : goal.returns-in-Trust-clause-clauses
returns-in-Trust-clause-clauses c =
    on_ok_weaker _ (trying-last c.args.code.now c.args.p.now c.loop-at.at c.in-Trust.l c.loop-at.invariant c.in-Trust.ensures) c.check_begun-in-Trust.ensures.ok

pub loop-at-preserved : goal.loop-at-preserved
loop-at-preserved c =
    trying-next c.args.code.now c.args.p.now c.loop-at.at c.in-Retry.l c.loop-at.invariant c.in-Retry.ensures c.in_ok-check_begun-in-Retry.ensures.ok

pub returns-in_default : goal.returns-in_default
returns-in_default c =
    record {
      clauses = tt;
      awaited = tt;
      bad = trying-stray c.args.code.now c.args.p.now c.loop-at.at c.requires.tries.0 c.instruction_at.result c.loop-at.invariant c.requires.tries.1 c.instruction_at.ensures (no_alternative c.instruction_at.result c.in_default.not-Retry c.in_default.not-Trust);
    }
