use Rattle.std.proofs.Common.{◌≤◌, arith}
use Rattle.ap_codecheck.specs.Held.{shape_of}
use Rattle.ap_codecheck.proofs.Ways.{place_below}
use Rattle.ap_codecheck.proofs.Following.{on-next, on-stop}
use Rattle.ap_codecheck.proofs.paths.follow.Goals as goal

pub returns-then-not-branch-clause-followed : goal.returns-then-not-branch-clause-followed
returns-then-not-branch-clause-followed c =
    let code = c.args.code.now in
    let behind : c.args.p.now.start ≤ c.loop-at.at = omega (arith, c.requires, c.loop-at.invariant.behind) in
    let place = place_below code c.args.p.now c.loop-at.at _ _ behind c.loop-at-test.true c.min-end.ensures c.instructions.ensures in
    on-stop code c.args.p.now c.args.from c.loop-at.at (shape_of c.args.walk.now.shape) (shape_of c.loop-at.walk.shape) (shape_of c.pass.new.walk.shape) c.args.walk.now.ways.items c.loop-at.walk.ways.items c.pass.new.walk.ways.items c.in_ok-pass.field-0
    c.requires c.loop-at.invariant place c.in_ok-pass.ensures.passed c.if-not-branch.true

pub loop-at-preserved : goal.loop-at-preserved
loop-at-preserved c =
    let code = c.args.code.now in
    let behind : c.args.p.now.start ≤ c.loop-at.at = omega (arith, c.requires, c.loop-at.invariant.behind) in
    let place = place_below code c.args.p.now c.loop-at.at _ _ behind c.loop-at-test.true c.min-end.ensures c.instructions.ensures in
    on-next code c.args.p.now c.args.from c.loop-at.at (shape_of c.args.walk.now.shape) (shape_of c.loop-at.walk.shape) (shape_of c.pass.new.walk.shape) c.args.walk.now.ways.items c.loop-at.walk.ways.items c.pass.new.walk.ways.items c.in_ok-pass.field-0
    c.requires c.loop-at.invariant place c.in_ok-pass.ensures.passed c.if-not-branch.false
