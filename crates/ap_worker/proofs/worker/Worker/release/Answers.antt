use Rattle.std.proofs.Common.{◌≡◌, [], ap, arith, rules}
use Rattle.std.proofs.lemmas.Grind.{common_steps}
use Rattle.ap_worker.specs.Totals.{shares_of}
use Rattle.ap_worker.proofs.worker.Worker.release.Goals as goal

pub loop-taken_goal-init : goal.loop-taken_goal-init
loop-taken_goal-init c =
    let gives : c.into_iter-taken_goal-iterator.result.rest.items ≡ c.args.self.taken.items = search rules in
    let same = ap shares_of gives in
    record { all = omega arith; few = omega arith }

pub loop-taken_goal-preserved : goal.loop-taken_goal-preserved
loop-taken_goal-preserved c = let more = ap shares_of c.in-Some.ensures.steps.0 in record { all = omega arith; few = omega arith }

pub returns : goal.returns
returns c =
    let none : c.loop-taken_goal.taken_goal-iterator.rest.items ≡ [] = grind (arith, common_steps, c.in-None.ensures.steps, c.in-None.ensures.goes, c.loop-taken_goal.taken_goal-iterator.rest.ok) in
    let same = ap shares_of none in
    omega arith
