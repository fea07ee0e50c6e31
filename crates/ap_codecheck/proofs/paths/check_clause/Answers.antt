use Rattle.std.proofs.Common.{List, subst, rules}
use Rattle.ap_codecheck.specs.declared.walk.Way.{Way}
use Rattle.ap_codecheck.specs.Held.{shape_of}
use Rattle.ap_codecheck.specs.Shape.{entry}
use Rattle.ap_codecheck.specs.Judged.{FailsFrom}
use Rattle.ap_codecheck.specs.Known.{IsFollowed}
use Rattle.ap_codecheck.proofs.Ways.{fails-behind}
use Rattle.ap_codecheck.proofs.Following.{way_none, checking-first, checking-reached, checking-next, checking-end}
use Rattle.ap_codecheck.proofs.paths.check_clause.Goals as goal

pub loop-number-init : goal.loop-number-init
loop-number-init c =
    checking-first c.args.code.now c.args.p.now c.args.from _ _ _ c.in_ok-begin.ensures.shape c.in_ok-begin.ensures.ways c.in_ok-follow.ensures.followed

pub returns-in_default-clause-ok : goal.returns-in_default-clause-ok
returns-in_default-clause-ok c =
    let none = way_none c.loop-number.walk.ways.items c.loop-number.number (shape_of c.stand.new.self.shape) c.in_ok-place.field-0 c.in_default.not-Some c.in_ok-place.ensures.way in
    checking-end c.args.code.now c.args.p.now c.args.from c.loop-number.walk.ways.items c.loop-number.number c.loop-number.invariant none

pub returns-in_err-follow-2-clause-bad : goal.returns-in_err-follow-2-clause-bad
returns-in_err-follow-2-clause-bad c =
    let way = rw c.in-Some.is at c.in_ok-place.ensures.way in
    let reached = checking-reached c.args.code.now c.args.p.now c.args.from c.loop-number.walk.ways.items c.loop-number.number c.in-Some.place (shape_of c.stand.new.self.shape) c.loop-number.invariant way in
    let failed : FailsFrom c.args.code.now c.args.p.now c.args.from (entry c.args.p.now.arity) c.in_err-follow-2.field-0.0
    = fails-behind c.args.code.now c.args.p.now reached.1.0 c.args.from c.in-Some.place (entry c.args.p.now.arity) (shape_of c.stand.new.self.shape) c.in_err-follow-2.field-0.0 reached.1.1 c.in_err-follow-2.ensures.bad in
    search rules

pub loop-number-preserved : goal.loop-number-preserved
loop-number-preserved c =
    let code = c.args.code.now in
    let p = c.args.p.now in
    let way = rw c.in-Some.is at c.in_ok-place.ensures.way in
    let P : List Way → Type 0 = λ ways. IsFollowed code p c.in-Some.place (shape_of c.stand.new.self.shape) ways c.follow-in-loop-number.new.walk.ways.items in
    checking-next code p c.args.from c.loop-number.walk.ways.items c.follow-in-loop-number.new.walk.ways.items c.loop-number.number c.in-Some.place (shape_of c.stand.new.self.shape) c.loop-number.invariant way
    (subst P c.in_ok-place.ensures.same c.in_ok-follow-2.ensures.followed)
