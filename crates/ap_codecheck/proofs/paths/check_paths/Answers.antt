use Rattle.std.proofs.Common.{rules, arith}
use Rattle.std.proofs.lemmas.Result.{on_ok_weaker}
use Rattle.ap_codecheck.specs.Paths.{IsPlaceOf}
use Rattle.ap_codecheck.proofs.Tried.{try-behind, begins-first, begins-one, paths-tried, paths-none, paths-one, ok_both}
use Rattle.ap_codecheck.proofs.paths.check_paths.Goals as goal

pub check_begun-requires-clause-behind : goal.check_begun-requires-clause-behind
check_begun-requires-clause-behind c =
    let place : IsPlaceOf c.args.code.now c.args.p.now c.args.p.now.start = search rules in
    try-behind c.args.code.now c.args.p.now c.args.p.now.start c.in-Try.l c.requires place c.in-Try.ensures

pub check_begun-requires-clause-begins : goal.check_begun-requires-clause-begins
check_begun-requires-clause-begins c = begins-first c.args.code.now c.args.p.now c.in-Try.l c.in-Try.ensures

pub check_begun-requires-in_default : goal.check_begun-requires-in_default
check_begun-requires-in_default c =
    record {
      behind = omega arith;
      begins = begins-one c.args.code.now c.args.p.now c.instruction_at.result c.instruction_at.ensures c.in_default.not-Try c.in_default.not-Fail;
    }

pub returns-in_ok-check_begun-in-Try-clause-ok : goal.returns-in_ok-check_begun-in-Try-clause-ok
returns-in_ok-check_begun-in-Try-clause-ok c =
    let place : IsPlaceOf c.args.code.now c.args.p.now c.args.p.now.start = search rules in
    ok_both _ _ _ _ (paths-tried c.args.code.now c.args.p.now c.in-Try.l place c.in-Try.ensures c.in_ok-check_begun-in-Try.ensures.ok) c.check_others.ensures.clauses c.check_others.ensures.awaited

pub returns-in-Fail-clause-ok : goal.returns-in-Fail-clause-ok
returns-in-Fail-clause-ok c =
    let place : IsPlaceOf c.args.code.now c.args.p.now c.args.p.now.start = search rules in
    paths-none c.args.code.now c.args.p.now place c.in-Fail.ensures

pub returns-in_default : goal.returns-in_default
returns-in_default c =
    let place : IsPlaceOf c.args.code.now c.args.p.now c.args.p.now.start = search rules in
    record {
      ok = on_ok_weaker _ (paths-one c.args.code.now c.args.p.now c.instruction_at.result place c.instruction_at.ensures c.in_default.not-Try c.in_default.not-Fail) c.check_begun-in_default.ensures.ok;
      bad = c.check_begun-in_default.ensures.bad;
    }
